pub mod SeasonFile
pub mod LineText
