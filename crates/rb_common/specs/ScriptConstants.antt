-- The scripts that have a constant of their own.
use Rattle.std.specs.Prelude.{ℕ, List, [], ◌∷◌, map, codes}
use Rattle.rb_common.specs.Tag.{tag_of}

-- their ISO 15924 tags, in the order of the constants
abbrev pub constant_tags : List ℕ
constant_tags =
    map (λ code. tag_of (codes code)) (
    "Zyyy" ∷ "Zinh" ∷ "Arab" ∷ "Armn" ∷ "Beng" ∷ "Cyrl" ∷ "Deva" ∷ "Geor" ∷ "Grek" ∷ "Gujr" ∷
    "Guru" ∷ "Hang" ∷ "Hani" ∷ "Hebr" ∷ "Hira" ∷ "Knda" ∷ "Kana" ∷ "Laoo" ∷ "Latn" ∷ "Mlym" ∷
    "Orya" ∷ "Taml" ∷ "Telu" ∷ "Thai" ∷ "Tibt" ∷ "Bopo" ∷ "Brai" ∷ "Cans" ∷ "Cher" ∷ "Ethi" ∷
    "Khmr" ∷ "Mong" ∷ "Mymr" ∷ "Ogam" ∷ "Runr" ∷ "Sinh" ∷ "Syrc" ∷ "Thaa" ∷ "Yiii" ∷ "Dsrt" ∷
    "Goth" ∷ "Ital" ∷ "Buhd" ∷ "Hano" ∷ "Tglg" ∷ "Tagb" ∷ "Cprt" ∷ "Limb" ∷ "Linb" ∷ "Osma" ∷
    "Shaw" ∷ "Tale" ∷ "Ugar" ∷ "Bugi" ∷ "Copt" ∷ "Glag" ∷ "Khar" ∷ "Talu" ∷ "Xpeo" ∷ "Sylo" ∷
    "Tfng" ∷ "Zzzz" ∷ "Bali" ∷ "Xsux" ∷ "Nkoo" ∷ "Phag" ∷ "Phnx" ∷ "Cari" ∷ "Cham" ∷ "Kali" ∷
    "Lepc" ∷ "Lyci" ∷ "Lydi" ∷ "Olck" ∷ "Rjng" ∷ "Saur" ∷ "Sund" ∷ "Vaii" ∷ "Avst" ∷ "Bamu" ∷
    "Egyp" ∷ "Armi" ∷ "Phli" ∷ "Prti" ∷ "Java" ∷ "Kthi" ∷ "Lisu" ∷ "Mtei" ∷ "Sarb" ∷ "Orkh" ∷
    "Samr" ∷ "Lana" ∷ "Tavt" ∷ "Batk" ∷ "Brah" ∷ "Mand" ∷ "Cakm" ∷ "Merc" ∷ "Mero" ∷ "Plrd" ∷
    "Shrd" ∷ "Sora" ∷ "Takr" ∷ "Bass" ∷ "Aghb" ∷ "Dupl" ∷ "Elba" ∷ "Gran" ∷ "Khoj" ∷ "Sind" ∷
    "Lina" ∷ "Mahj" ∷ "Mani" ∷ "Mend" ∷ "Modi" ∷ "Mroo" ∷ "Nbat" ∷ "Narb" ∷ "Perm" ∷ "Hmng" ∷
    "Palm" ∷ "Pauc" ∷ "Phlp" ∷ "Sidd" ∷ "Tirh" ∷ "Wara" ∷ "Ahom" ∷ "Hluw" ∷ "Hatr" ∷ "Mult" ∷
    "Hung" ∷ "Sgnw" ∷ "Adlm" ∷ "Bhks" ∷ "Marc" ∷ "Osge" ∷ "Tang" ∷ "Newa" ∷ "Gonm" ∷ "Nshu" ∷
    "Soyo" ∷ "Zanb" ∷ "Dogr" ∷ "Gong" ∷ "Rohg" ∷ "Maka" ∷ "Medf" ∷ "Sogo" ∷ "Sogd" ∷ "Elym" ∷
    "Nand" ∷ "Hmnp" ∷ "Wcho" ∷ "Chrs" ∷ "Diak" ∷ "Kits" ∷ "Yezi" ∷ "Cpmn" ∷ "Ougr" ∷ "Tnsa" ∷
    "Toto" ∷ "Vith" ∷ "Kawi" ∷ "Nagm" ∷ "Gara" ∷ "Gukh" ∷ "Krai" ∷ "Onao" ∷ "Sunu" ∷ "Todr" ∷
    "Tutg" ∷ "Zmth" ∷ "Qaag" ∷
    [])
