pub mod Declarations
pub mod LinesCut
pub mod RolesCut
pub mod Parts
pub mod BodyParts
