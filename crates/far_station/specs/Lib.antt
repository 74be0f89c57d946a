pub mod CannotForce
