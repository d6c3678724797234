-- What a stage is, and what an event leaves of it.
pub mod LentLinks
pub mod Scene
pub mod LinksStand
pub mod StageStands
pub mod StageAdvance
pub mod EventFrame
