-- Why items that change places within their syllable keep the clusters.
--
-- A range is merged before its items move, so that it is one cluster. Then a part of the list is written anew with the
-- same clusters place by place, or the same items in another order (`MovedLemmas`), as one that is turned in a range
-- (`TurnLemmas`), or that is sorted with its places and written back (`PlacedLemmas`). In any order of clusters nothing
-- is merged, and what stays is which numbers there are (`NumbersLemmas`). Items keep numbers in bytes of a word (`ItemLemmas`), and a
-- circle stands behind the rephs of its syllable (`CircleLemmas`). What lies in the text is merged (`MergedLemmas`). Which characters make a syllable, and in which
-- order they stand, is compared with HarfBuzz, and not proved.

pub mod CircleLemmas
pub mod ItemLemmas
pub mod MergedLemmas
pub mod MovedLemmas
pub mod NumbersLemmas
pub mod PlacedLemmas
pub mod TurnLemmas
