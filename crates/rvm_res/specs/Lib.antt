pub mod Reservations
