-- The collapse pass of a round in work words: `Areas` says where what stands, `Noting` what each stage leaves.
pub mod Areas
pub mod Noting
