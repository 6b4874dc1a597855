-- The definitions at small texts, most of them with a character outside the basic plane.
use Rattle.std.proofs.Common.{◌≡◌, ℕ, ◌-◌, ◌^◌, true, false, List, [], ◌∷◌, ◌++◌, codes, Ok, Err, refl}
use Rattle.std.specs.Str.{chars, is_utf8}
use Rattle.std.specs.Char.Utf16.{utf16_chars}
use lib.Utf8.{encode}
use Rattle.dart_text.specs.Units.{units_of, text_of, splits_pair}
use Rattle.dart_text.specs.Lines.{position_of}
use Rattle.dart_text.specs.Edits.{edited, replaced, text_in_bytes}
use Rattle.dart_text.specs.declared.edit.EditRefusal.TheVariants.{OutOfRange, SplitsPair}
use Rattle.dart_text.specs.declared.text.TextRefusal.TheVariants.{NotUtf8}

-- U+1F600 in UTF-8
abbrev face : List ℕ
face = 240 ∷ 159 ∷ 152 ∷ 128 ∷ []

-- it stands between two letters; it begins and ends two lines
abbrev between : List ℕ
between = codes "a" ++ face ++ codes "b"

abbrev lines : List ℕ
lines = face ++ 13 ∷ 10 ∷ codes "x" ++ face

-- its units are a pair of surrogates, and these spell it; one without the other is read as U+FFFD
units_row : units_of between ≡ 97 ∷ 0xD83D ∷ 0xDE00 ∷ 98 ∷ []
unfolding units_of chars
units_row = refl

text_row : text_of (97 ∷ 0xD83D ∷ 0xDE00 ∷ 98 ∷ []) ≡ between
unfolding text_of utf16_chars encode
text_row = refl

lone_row : text_of (0xDE00 ∷ 97 ∷ []) ≡ 239 ∷ 191 ∷ 189 ∷ 97 ∷ []
unfolding text_of utf16_chars encode
lone_row = refl

-- of the offsets, that between the two surrogates splits the pair, and the next one does not
splits_row : splits_pair 2 (units_of between) ≡ true
unfolding units_of chars
splits_row = refl

whole_row : splits_pair 3 (units_of between) ≡ false
unfolding units_of chars
whole_row = refl

-- bytes that stop in a character
bytes_row : text_in_bytes (97 ∷ 240 ∷ 159 ∷ []) ≡ Err NotUtf8
unfolding text_in_bytes is_utf8 chars encode
bytes_row = refl

-- the pair is replaced whole
replace_row : edited between 1 2 (codes "-") ≡ Ok (codes "a-b")
unfolding edited replaced units_of text_of chars utf16_chars encode
replace_row = refl

-- a pair is put in at the end
append_row : edited (codes "a") 1 0 face ≡ Ok (codes "a" ++ face)
unfolding edited replaced units_of text_of chars utf16_chars encode
append_row = refl

-- the end lies inside the pair; the start does; the start does, and the end lies past the end of the text
end_row : edited between 0 2 [] ≡ Err (SplitsPair 2)
unfolding edited units_of chars
end_row = refl

start_row : edited between 2 1 [] ≡ Err (SplitsPair 2)
unfolding edited units_of chars
start_row = refl

range_row : edited between 2 3 [] ≡ Err (OutOfRange 4)
unfolding edited units_of chars
range_row = refl

-- the greatest offset and length that a client can send
last_row : edited between (2 ^ 64 - 1) (2 ^ 64 - 1) [] ≡ Err (OutOfRange 4)
unfolding edited units_of chars
last_row = refl

-- inside the first pair, at the line feed, and behind it
inside_row : position_of 1 lines ≡ record { line = 1; column = 2 }
unfolding position_of units_of chars
inside_row = refl

feed_row : position_of 3 lines ≡ record { line = 1; column = 4 }
unfolding position_of units_of chars
feed_row = refl

behind_row : position_of 4 lines ≡ record { line = 2; column = 1 }
unfolding position_of units_of chars
behind_row = refl

-- inside the last pair, and past the end
tail_row : position_of 6 lines ≡ record { line = 2; column = 3 }
unfolding position_of units_of chars
tail_row = refl

past_row : position_of 99 lines ≡ record { line = 2; column = 4 }
unfolding position_of units_of chars
past_row = refl
