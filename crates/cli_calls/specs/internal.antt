pub mod App
