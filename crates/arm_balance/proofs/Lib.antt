mod Following
mod Reading
