-- Why a font of a file has the size that was asked for (`SizeLemmas`).

mod SizeLemmas
