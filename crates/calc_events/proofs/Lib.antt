-- Laws of the list of all events, and of what each listener has seen of it.
mod SeenLaws
