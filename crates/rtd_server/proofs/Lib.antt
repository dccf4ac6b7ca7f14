-- Laws of what is published for strings, and of the ids that are connected with them.
mod Published
mod Watching
