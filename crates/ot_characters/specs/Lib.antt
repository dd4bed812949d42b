pub mod Turned
pub mod Numbers
pub mod TurnedContexts
pub mod Rotation
pub mod Properties
pub mod NativeDirection
pub mod FormedClusters
pub mod Circle
