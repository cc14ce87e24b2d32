pub mod Desks
pub mod Mailboxes
pub mod Schedules
pub mod Stops
