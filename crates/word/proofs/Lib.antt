pub mod WordLaw
