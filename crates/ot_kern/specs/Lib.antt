pub mod Kerning
