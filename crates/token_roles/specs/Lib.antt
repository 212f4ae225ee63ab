pub mod Classes
pub mod Left
pub mod RoleTable
pub mod Power
pub mod Marks
pub mod Held
