-- Links and store, as steps change them.
pub mod LinksSame
pub mod LinksMoves
pub mod LinksGone
pub mod LinksKept
pub mod LentTaken
pub mod LentPlaces
pub mod OneOut
pub mod Owners
pub mod Middles
pub mod OwnLink
pub mod OwnLinkLeft
