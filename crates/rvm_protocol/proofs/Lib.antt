mod PairInvariant
mod CurrentModes
mod StateCases
mod OtherModes
mod Basics
mod CurrentPages
mod OtherPages
pub mod Tellings
mod Behind
mod PagesOfFrames
pub mod WorldInvariant
mod ReadFrames
mod CurrentHost
mod OtherHosts
pub mod Runs
pub mod OneCurrent
pub mod OneGuestHolds
pub mod NoStalePages
pub mod Causes
pub mod CausesOfRuns
pub mod Contents
mod DriveCount
mod Phases
mod Lists
mod DrivenMove
mod DeclinedMove
pub mod DrivenMoveHolds
pub mod Bounds
pub mod MoveNumbers
pub mod Course
mod Counter
mod Examples
mod CountedCopies
mod Witnesses
mod HostsAtTheEdges
mod HostsInEachMode
mod LongRuns
pub mod RoundCopies
mod RoundCounts
mod LastRound
mod CopiesTold
