-- Dates and times.
pub mod Calendar
