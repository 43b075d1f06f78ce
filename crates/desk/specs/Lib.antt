-- The tool: its calls, and what it prints of them.
pub mod Recoloured
pub mod inner
pub mod Tool
