pub mod ExactValue
