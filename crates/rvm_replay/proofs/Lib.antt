mod OnlyOne
mod AllHosts
pub mod Worlds
pub mod Behind
mod HostJournals
mod JournalFaults
pub mod OtherMeetings
mod AuditEnds
mod Counting
mod SummaryLines
mod Charting
mod JournalTurns
mod CountedTurns
mod PlacedTurns
mod TurnEnds
mod Examples
mod PlaceLines
pub mod OneWorld
mod Showing
pub mod Replayed
mod UntoldReplays
