-- The scripts that the universal shaper serves.
use Rattle.std.specs.Prelude.{ℕ, List, [], ◌∷◌, codes}
use Rattle.rb_common.specs.Tag.{tag_of}

-- by their ISO 15924 tags
abbrev pub universal_scripts : List ℕ
universal_scripts =
    tag_of (codes "Adlm") ∷ tag_of (codes "Ahom") ∷ tag_of (codes "Bali") ∷ tag_of (codes "Batk") ∷ tag_of (codes "Bhks") ∷ tag_of (codes "Brah") ∷
    tag_of (codes "Bugi") ∷ tag_of (codes "Buhd") ∷ tag_of (codes "Cakm") ∷ tag_of (codes "Cham") ∷ tag_of (codes "Chrs") ∷ tag_of (codes "Cpmn") ∷
    tag_of (codes "Diak") ∷ tag_of (codes "Dogr") ∷ tag_of (codes "Dupl") ∷ tag_of (codes "Egyp") ∷ tag_of (codes "Elym") ∷ tag_of (codes "Gara") ∷
    tag_of (codes "Gong") ∷ tag_of (codes "Gonm") ∷ tag_of (codes "Gran") ∷ tag_of (codes "Gukh") ∷ tag_of (codes "Hano") ∷ tag_of (codes "Hmng") ∷
    tag_of (codes "Hmnp") ∷ tag_of (codes "Java") ∷ tag_of (codes "Kali") ∷ tag_of (codes "Kawi") ∷ tag_of (codes "Khar") ∷ tag_of (codes "Khoj") ∷
    tag_of (codes "Kits") ∷ tag_of (codes "Krai") ∷ tag_of (codes "Kthi") ∷ tag_of (codes "Lana") ∷ tag_of (codes "Lepc") ∷ tag_of (codes "Limb") ∷
    tag_of (codes "Mahj") ∷ tag_of (codes "Maka") ∷ tag_of (codes "Mand") ∷ tag_of (codes "Mani") ∷ tag_of (codes "Marc") ∷ tag_of (codes "Medf") ∷
    tag_of (codes "Modi") ∷ tag_of (codes "Mong") ∷ tag_of (codes "Mtei") ∷ tag_of (codes "Mult") ∷ tag_of (codes "Nagm") ∷ tag_of (codes "Nand") ∷
    tag_of (codes "Newa") ∷ tag_of (codes "Nkoo") ∷ tag_of (codes "Onao") ∷ tag_of (codes "Ougr") ∷ tag_of (codes "Phag") ∷ tag_of (codes "Phlp") ∷
    tag_of (codes "Plrd") ∷ tag_of (codes "Rjng") ∷ tag_of (codes "Rohg") ∷ tag_of (codes "Saur") ∷ tag_of (codes "Shrd") ∷ tag_of (codes "Sidd") ∷
    tag_of (codes "Sind") ∷ tag_of (codes "Sinh") ∷ tag_of (codes "Sogd") ∷ tag_of (codes "Sogo") ∷ tag_of (codes "Soyo") ∷ tag_of (codes "Sund") ∷
    tag_of (codes "Sunu") ∷ tag_of (codes "Sylo") ∷ tag_of (codes "Tagb") ∷ tag_of (codes "Takr") ∷ tag_of (codes "Tale") ∷ tag_of (codes "Tavt") ∷
    tag_of (codes "Tfng") ∷ tag_of (codes "Tglg") ∷ tag_of (codes "Tibt") ∷ tag_of (codes "Tirh") ∷ tag_of (codes "Tnsa") ∷ tag_of (codes "Todr") ∷
    tag_of (codes "Toto") ∷ tag_of (codes "Tutg") ∷ tag_of (codes "Vith") ∷ tag_of (codes "Wcho") ∷ tag_of (codes "Yezi") ∷ tag_of (codes "Zanb") ∷ []

-- those among them whose letters join
abbrev pub joining_scripts : List ℕ
joining_scripts =
    tag_of (codes "Adlm") ∷ tag_of (codes "Chrs") ∷ tag_of (codes "Rohg") ∷ tag_of (codes "Mand") ∷ tag_of (codes "Mani") ∷ tag_of (codes "Mong") ∷
    tag_of (codes "Nkoo") ∷ tag_of (codes "Ougr") ∷ tag_of (codes "Phag") ∷ tag_of (codes "Phlp") ∷ tag_of (codes "Sogd") ∷ []
