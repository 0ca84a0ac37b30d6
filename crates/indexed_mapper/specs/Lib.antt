pub mod Map
pub mod Match
pub mod Board
pub mod Laws
