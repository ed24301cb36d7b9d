pub mod Challenges
pub mod ChallengeText
pub mod NonceSchedule
pub mod TraceLines
pub mod Replies
pub mod Report
pub mod Laws
