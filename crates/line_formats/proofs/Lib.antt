-- Why the formats are what is defined: each function adds a piece, and a loop adds what is next of what is left.

mod CharacterLemmas
mod JsonLemmas
