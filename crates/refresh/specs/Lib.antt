pub mod RefreshDesk
pub mod AfterEdit
pub mod editing
pub mod reach
pub mod inner
