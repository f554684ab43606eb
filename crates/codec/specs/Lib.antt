pub mod Told
pub mod NumberBack
pub mod Meanings
pub mod Rises
