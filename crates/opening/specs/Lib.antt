pub mod Opens
pub mod SeasonStart
