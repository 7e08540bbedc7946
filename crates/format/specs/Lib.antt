pub mod Limits
pub mod Refusal
pub mod Record
pub mod Meaning
pub mod WellFormed
pub mod Origins
pub mod Marks
