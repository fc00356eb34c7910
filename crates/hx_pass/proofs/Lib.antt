pub mod AcceptedOf
pub mod Examples
mod PreferenceList
mod BoundReached
mod ThrottledParts
mod FirstPass
pub mod Longer
pub mod Made
pub mod Posting
pub mod Calm
pub mod Waiting
pub mod Again
pub mod Listed
pub mod Among
pub mod Sorted
pub mod OneByPart
pub mod Filtered
pub mod Marked
pub mod Alone
pub mod Accepted
pub mod FoundAgain
pub mod PostedAgain
pub mod FormedAgain
