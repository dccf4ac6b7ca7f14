-- Laws of what follows a book.
mod Entries
mod Puts
mod Reaching
mod Marking
mod Remaking
mod Ends
mod Editing
