-- Why each line of a text is answered, in turn: one line more is one answer more (`LineLemmas`).

mod LineLemmas
mod RunLemmas
