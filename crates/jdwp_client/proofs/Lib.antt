pub mod Lists
pub mod Rising
pub mod Taking
pub mod Freeing
pub mod Finding
pub mod Steps
pub mod Streams
pub mod TicketLemmas
