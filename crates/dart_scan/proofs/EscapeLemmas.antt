-- Units with escapes, from escape to escape.
use Rattle.std.proofs.Common.{◌≡◌, ℕ, zero, suc, ◌+◌, ◌^◌, ◌<◌, ◌≤◌, ◌==◌, Bool, true, false, List, [], ◌∷◌, ◌++◌, length, map, take, drop, take_while, nat_lt, Some, None, IsTrue, All, unwrap_or, if◌then◌else◌, refl, sym, ap, ◌∙◌, arith, append_assoc, append-nil, lit<}
use Rattle.std.specs.List.{prefix_len}
use Rattle.std.specs.Char.Escape.{encode_utf16}
use Rattle.std.proofs.Math.Nat.{pow-le-pow_right}
use Rattle.std.proofs.lemmas.Bool.{cond-true, lt-ltb, eq-eqb}
use Rattle.std.proofs.lemmas.List.{map-append, get_or-take}
use Rattle.std.proofs.lemmas.List.Elements.{All-same}
use Rattle.std.proofs.lemmas.List.Folds.{length-prefix_len}
use Rattle.std.proofs.lemmas.List.Sums.{prefix_len_passes}
use Rattle.dart_tokens.specs.declared.scanned.LexFault.{LexFault}
use Rattle.dart_scan.specs.declared.escape.Escape.{Escape as Kept}
use Rattle.dart_scan.specs.Escapes.{escape_of, fault_of, faults_of_escape}
use Rattle.dart_scan.specs.Characters.{is_hexadecimal_digit}
use Rattle.dart_scan.specs.Values.{Escape, hexadecimal_value, digits_escape, escape_at, unescaped, bad_escapes}

unescaped-taken : (taken : ℕ) (units : List ℕ) → unescaped taken units ≡ unescaped 0 (drop taken units)
unfolding unescaped
unescaped-taken zero units = refl
unescaped-taken (suc taken) [] = refl
unescaped-taken (suc taken) (unit ∷ units) = unescaped-taken taken units

bad_escapes-taken : (offset taken : ℕ) (units : List ℕ) → bad_escapes offset taken units ≡ bad_escapes (offset + taken) 0 (drop taken units)
unfolding bad_escapes
bad_escapes-taken offset zero units = let e : offset + zero ≡ offset = omega arith in rw e refl
bad_escapes-taken offset (suc taken) [] = refl
bad_escapes-taken offset (suc taken) (unit ∷ units) =
    let e : (offset + 1) + taken ≡ offset + suc taken = omega arith in
    bad_escapes-taken (offset + 1) taken units ∙ ap (λ o. bad_escapes o 0 (drop taken units)) e

-- the units of an escape, and those behind it
unescaped-escape : (units : List ℕ) → unescaped 0 (92 ∷ units) ≡ unwrap_or (escape_at units).value [] ++ unescaped 0 (drop (escape_at units).size units)
unfolding unescaped
unescaped-escape units = ap (λ more. unwrap_or (escape_at units).value [] ++ more) (unescaped-taken (escape_at units).size units)

unescaped-plain : (unit : ℕ) (units : List ℕ) → (unit == 92) ≡ false → unescaped 0 (unit ∷ units) ≡ unit ∷ unescaped 0 units
unfolding unescaped
unescaped-plain unit units plain = rw plain refl

bad_escapes-escape : (offset : ℕ) (units : List ℕ) → bad_escapes offset 0 (92 ∷ units) ≡ faults_of_escape offset (escape_at units) ++ bad_escapes ((offset + 1) + (escape_at units).size) 0 (drop (escape_at units).size units)
unfolding bad_escapes
bad_escapes-escape offset units =
    ap (λ more. faults_of_escape offset (escape_at units) ++ more) (bad_escapes-taken (offset + 1) (escape_at units).size units)

bad_escapes-plain : (offset unit : ℕ) (units : List ℕ) → (unit == 92) ≡ false → bad_escapes offset 0 (unit ∷ units) ≡ bad_escapes (offset + 1) 0 units
unfolding bad_escapes
bad_escapes-plain offset unit units plain = rw plain refl

-- a turn at an escape: the escape that was found, and what is behind it
pub record AtEscape (rest : List ℕ) (unit : ℕ) (after : List ℕ) (escape : Kept) (rest' : List ℕ) : Type 0 where
  pub front : rest ≡ unit ∷ after
  pub backslash : unit ≡ 92
  pub escape_is : escape_of escape ≡ escape_at after
  pub back : rest' ≡ drop escape.size after

pub unescaped-at_escape : (whole done done' rest : List ℕ) (unit : ℕ) (after : List ℕ) (escape : Kept) (rest' : List ℕ) → AtEscape rest unit after escape rest' → done' ≡ done ++ unwrap_or (escape_of escape).value []
    → whole ≡ done ++ unescaped 0 rest → whole ≡ done' ++ unescaped 0 rest'
unescaped-at_escape whole done done' rest unit after escape rest' t d e =
    let value = unwrap_or (escape_of escape).value [] in
    e ∙ ap (λ units. done ++ unescaped 0 units) (t.front ∙ ap (λ u. u ∷ after) t.backslash)
    ∙ ap (λ units. done ++ units) (unescaped-escape after ∙ ap (λ found. unwrap_or found.value [] ++ unescaped 0 (drop found.size after)) (sym t.escape_is))
    ∙ sym (append_assoc done value (unescaped 0 (drop escape.size after)))
    ∙ ap (λ units. (done ++ value) ++ unescaped 0 units) (sym t.back)
    ∙ ap (λ units. units ++ unescaped 0 rest') (sym d)

pub unescaped-at_plain : (whole done done' rest : List ℕ) (unit : ℕ) (after : List ℕ) → rest ≡ unit ∷ after → (unit == 92) ≡ false → done' ≡ done ++ unit ∷ []
    → whole ≡ done ++ unescaped 0 rest → whole ≡ done' ++ unescaped 0 after
unescaped-at_plain whole done done' rest unit after front plain d e =
    e ∙ ap (λ units. done ++ unescaped 0 units) front ∙ ap (λ units. done ++ units) (unescaped-plain unit after plain)
    ∙ sym (append_assoc done (unit ∷ []) (unescaped 0 after)) ∙ ap (λ units. units ++ unescaped 0 after) (sym d)

-- the faults among units
abbrev pub faults_in : ℕ → List ℕ → List LexFault
faults_in offset units = map fault_of (bad_escapes offset 0 units)

pub faults-at_escape : (whole done done' : List LexFault) (offset offset' : ℕ) (rest : List ℕ) (unit : ℕ) (after : List ℕ) (escape : Kept) (rest' : List ℕ) → AtEscape rest unit after escape rest' → offset' ≡ (offset + 1) + escape.size
    → done' ≡ done ++ map fault_of (faults_of_escape offset (escape_of escape)) → whole ≡ done ++ faults_in offset rest → whole ≡ done' ++ faults_in offset' rest'
faults-at_escape whole done done' offset offset' rest unit after escape rest' t o d e =
    let here = faults_of_escape offset (escape_of escape) in
    let more = bad_escapes ((offset + 1) + escape.size) 0 (drop escape.size after) in
    e ∙ ap (λ units. done ++ faults_in offset units) (t.front ∙ ap (λ u. u ∷ after) t.backslash)
    ∙ ap (λ ranges. done ++ map fault_of ranges) (bad_escapes-escape offset after ∙ ap (λ found. faults_of_escape offset found ++ bad_escapes ((offset + 1) + found.size) 0 (drop found.size after)) (sym t.escape_is))
    ∙ ap (λ faults. done ++ faults) (map-append fault_of here more)
    ∙ sym (append_assoc done (map fault_of here) (map fault_of more))
    ∙ ap (λ units. (done ++ map fault_of here) ++ faults_in ((offset + 1) + escape.size) units) (sym t.back)
    ∙ ap (λ o. (done ++ map fault_of here) ++ faults_in o rest') (sym o)
    ∙ ap (λ faults. faults ++ faults_in offset' rest') (sym d)

pub faults-at_plain : (whole done : List LexFault) (offset : ℕ) (rest : List ℕ) (unit : ℕ) (after : List ℕ) → rest ≡ unit ∷ after → (unit == 92) ≡ false
    → whole ≡ done ++ faults_in offset rest → whole ≡ done ++ faults_in (offset + 1) after
faults-at_plain whole done offset rest unit after front plain e =
    e ∙ ap (λ units. done ++ faults_in offset units) front ∙ ap (λ ranges. done ++ map fault_of ranges) (bad_escapes-plain offset unit after plain)

-- nothing is left at the end
pub unescaped-end : (whole done rest : List ℕ) → length rest ≡ 0 → whole ≡ done ++ unescaped 0 rest → done ≡ whole
unfolding unescaped
unescaped-end whole done [] none e = sym (e ∙ append-nil done)
unescaped-end whole done (unit ∷ rest) none e = absurd (omega (arith, none))

pub faults-end : (whole done : List LexFault) (offset : ℕ) (rest : List ℕ) → length rest ≡ 0 → whole ≡ done ++ faults_in offset rest → done ≡ whole
unfolding bad_escapes
faults-end whole done offset [] none e = sym (e ∙ append-nil done)
faults-end whole done offset (unit ∷ rest) none e = absurd (omega (arith, none))

-- digits of which there are few stand for one unit
pub few_digits : (value count : ℕ) → value < 16 ^ count → count ≤ 4 → value < 65536
few_digits value count small few = omega (arith, pow-le-pow_right {n = 16} (lit< tt) {i = count} {j = 4} few)

one_unit : (value : ℕ) → value < 65536 → encode_utf16 value ≡ value ∷ []
one_unit value small = cond-true (nat_lt value 0x1_0000) (value ∷ []) _ (lt-ltb value 65536 small)

-- an escape with as many digits as it asks for
pub digits-whole : (count : ℕ) (units digits : List ℕ) (value : ℕ) → digits ≡ take_while is_hexadecimal_digit (take count units) → length digits ≡ count → value ≡ hexadecimal_value digits → value < 16 ^ length digits → count ≤ 4
    → escape_of (record { code = Some value; size = 1 + length digits }) ≡ digits_escape count units
digits-whole count units digits value d n v small few =
    let whole : (length digits == count) ≡ true = eq-eqb (length digits) count n in
    let F : List ℕ → Escape = λ ds. record { value = if length ds == count then Some (hexadecimal_value ds ∷ []) else None; size = 1 + length ds } in
    let G : List ℕ → Escape = λ us. record { value = Some us; size = 1 + length digits } in
    let H : Bool → Escape = λ b. record { value = if b then Some (hexadecimal_value digits ∷ []) else None; size = 1 + length digits } in
    ap G (one_unit value (few_digits value (length digits) small (omega arith)) ∙ ap (λ u. u ∷ []) v) ∙ ap H (sym whole) ∙ ap F d

pub all_digits : (units digits : List ℕ) → digits ≡ take_while is_hexadecimal_digit units → All (λ unit. IsTrue (is_hexadecimal_digit unit)) digits
all_digits units digits e =
    All-same (λ unit. IsTrue (is_hexadecimal_digit unit)) digits (take_while is_hexadecimal_digit units) e
    (λ k d less.
    let place : k < prefix_len is_hexadecimal_digit units = omega (arith, less, length-prefix_len is_hexadecimal_digit units) in
    rw (get_or-take (prefix_len is_hexadecimal_digit units) units k d place) (prefix_len_passes is_hexadecimal_digit units k d place))
