-- Laws of calls. `Check`: what the Rust's `validate` says. `PageTwelve`: page twelve's first printing. Of calls that answer 0, `Volume`: page twelve's next printing; `Price`: the powder tariff; `Nearest`: nearest corners; `Outlines`: layer outlines; `Edit`: demand 3; `Improve`: demand 3 of the rounds, and that they are the Rust's. `Sheets` has what the calls on sheets hand on, `SheetLaws` their laws; `Sample` and `SampleLaws` likewise for sampling, `Cut` and `CutLaws` for cutting.
pub mod Check
pub mod PageTwelve
pub mod Volume
pub mod Price
pub mod Nearest
pub mod Outlines
pub mod Edit
pub mod Improve
pub mod Sheets
pub mod SheetLaws
pub mod Sample
pub mod SampleLaws
pub mod Cut
pub mod CutLaws
