pub mod Buffers
pub mod Ended
pub mod Explained
pub mod Statuses
mod OrdersEnded
mod ReplayEnds
pub mod AuditedFiles
mod TurnsEnds
