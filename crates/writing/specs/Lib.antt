-- Writing a sheet: `Lists` has the sheet that lists of whole numbers say, `Written` what comes of writing it, `Laws` what is proved of the lists, and `Stages` what the functions of `src/` write.
pub mod Lists
pub mod Written
pub mod Laws
pub mod Stages
