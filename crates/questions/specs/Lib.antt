-- The questions of document 01 that all calls share: `Questions` asks them in turn; `Refusal` has the number and the place of each "no"; `Rules` and `Labels` have the tests that are named; `Admitted` says in readable form
-- what a surface has that passes them all.
-- `Stages` has the contracts of the private functions.
pub mod Refusal
pub mod Rules
pub mod Labels
pub mod Questions
pub mod Stages
pub mod Admitted
