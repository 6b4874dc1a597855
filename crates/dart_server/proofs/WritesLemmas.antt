-- What is written, put together from parts.
use Rattle.std.proofs.Common.{◌≡◌, inl, inr, ℕ, ◌+◌, ◌<◌, ◌≤◌, List, [], ◌++◌, Option, Result, Ok, Err, IsErr, length, take, refl, sym, ap, subst, ◌∙◌, append_assoc, arith}
use Rattle.std.proofs.lemmas.List.{length-append, take-append-le}
use Rattle.std.proofs.Math.Seq.{take-append-add}
use Rattle.std.specs.Result.{IsErrAnd}
use Rattle.fault_io.specs.Bytes.{and_then}
use Rattle.fault_io.specs.BytesLaws.{and_then-nil, and_then-and_then}
use Rattle.fault_io.specs.declared.traits.WriteRefusal.{WriteRefusal}
use Rattle.fault_io.specs.declared.traits.WriteRefusal.TheVariants.{Failed, Memory}
use Rattle.dart_server.specs.declared.status.Status.{Status}
use Rattle.dart_server.specs.Writes.{Says, Writes}

-- a sink that refuses a text has a front of it
pub refused_text : (text : List ℕ) (status : Status) (old new : Option (List ℕ)) (r : Result Status WriteRefusal) → IsErr r → (n : ℕ) × (n < length text) × (new ≡ and_then old (take n text)) → Writes (Says text status) old new r
refused_text text status old new (Ok s) refuses cut = cc
refused_text text status old new (Err Failed) refuses cut = (record { output = text; status = status; given = (refl, refl); size = cut.0; written = cut.2 }, cut.1)
refused_text text status old new (Err Memory) refuses cut = inr (record { output = text; status = status; given = (refl, refl); size = cut.0; written = cut.2 })

-- the refusal that want of memory becomes
pub is_memory : (r : Result Status WriteRefusal) → IsErrAnd r (λ e. e ≡ Memory) → r ≡ Err Memory
is_memory (Ok s) is = absurd is
is_memory (Err e) is = ap (λ (refusal : WriteRefusal). Err refusal) is

-- what is written of an output of one kind is written of one of another, if each of the one is of the other
pub writes_map : (G H : List ℕ → Status → Type 0) (old new : Option (List ℕ)) (r : Result Status WriteRefusal) → ((output : List ℕ) (status : Status) → G output status → H output status) → Writes G old new r → Writes H old new r
writes_map G H old new (Ok status) f w = record { output = w.output; given = f w.output status w.given; written = w.written }
writes_map G H old new (Err Failed) f w = (record { output = w.0.output; status = w.0.status; given = f w.0.output w.0.status w.0.given; size = w.0.size; written = w.0.written }, w.1)
writes_map G H old new (Err Memory) f (inl same) = inl same
writes_map G H old new (Err Memory) f (inr w) = inr (record { output = w.output; status = w.status; given = f w.output w.status w.given; size = w.size; written = w.written })

-- more behind what is written
behind : (old now new : Option (List ℕ)) (written more : List ℕ) → now ≡ and_then old written → new ≡ and_then now more → new ≡ and_then old (written ++ more)
behind old now new written more is adds = adds ∙ ap (λ (told : Option (List ℕ)). and_then told more) is ∙ and_then-and_then old written more

-- a front of what is kept behind what is written is a front of the whole
front_of_kept : (written kept rest : List ℕ) (n : ℕ) → n ≤ length kept → written ++ take n kept ≡ take (length written + n) ((written ++ kept) ++ rest)
front_of_kept written kept rest n short =
    sym (ap (take (length written + n)) (append_assoc written kept rest) ∙ take-append-add written (kept ++ rest) n ∙ ap (λ (xs : List ℕ). written ++ xs) (take-append-le n kept rest short))

-- part of what is kept is written, of an output that goes on with it
pub cut_kept : (G : List ℕ → Status → Type 0) (old now new : Option (List ℕ)) (written kept rest output : List ℕ) (status : Status) (r : Result Status WriteRefusal) → IsErr r → G output status → output ≡ (written ++ kept) ++ rest → now ≡ and_then old written → (n : ℕ) × (n < length kept) × (new ≡ and_then now (take n kept)) → Writes G old new r
cut_kept G old now new written kept rest output status (Ok s) refuses given is stands cut = cc
cut_kept G old now new written kept rest output status (Err Failed) refuses given is stands cut =
    let short : cut.0 ≤ length kept = omega (arith, cut.1) in
    let long : length output ≡ length written + length kept + length rest = ap length is ∙ length-append (written ++ kept) rest ∙ ap (λ (n : ℕ). n + length rest) (length-append written kept) in (
      record {
        output = output;
        status = status;
        given = given;
        size = length written + cut.0;
        written = behind old now new written (take cut.0 kept) stands cut.2 ∙ ap (and_then old) (front_of_kept written kept rest cut.0 short ∙ ap (take (length written + cut.0)) (sym is));
      },
      omega (arith, cut.1, long),
    )
cut_kept G old now new written kept rest output status (Err Memory) refuses given is stands cut =
    let short : cut.0 ≤ length kept = omega (arith, cut.1) in
    inr (record {
      output = output;
      status = status;
      given = given;
      size = length written + cut.0;
      written = behind old now new written (take cut.0 kept) stands cut.2 ∙ ap (and_then old) (front_of_kept written kept rest cut.0 short ∙ ap (take (length written + cut.0)) (sym is));
    })

-- nothing of what is kept is written
pub keep_kept : (G : List ℕ → Status → Type 0) (old now : Option (List ℕ)) (written kept rest output : List ℕ) (status : Status) → G output status → output ≡ (written ++ kept) ++ rest → now ≡ and_then old written → Writes G old now (Err Memory)
keep_kept G old now written kept rest output status given is stands =
    inr (record {
      output = output;
      status = status;
      given = given;
      size = length written + 0;
      written = behind old now now written [] stands (sym (and_then-nil now)) ∙ ap (and_then old) (front_of_kept written kept rest 0 (omega arith) ∙ ap (take (length written + 0)) (sym is));
    })

-- the last part of an output is written behind the others
pub say_kept : (G : List ℕ → Status → Type 0) (old now new : Option (List ℕ)) (written kept : List ℕ) (status : Status) (r : Result Status WriteRefusal) → G (written ++ kept) status → now ≡ and_then old written → Writes (Says kept status) now new r → Writes G old new r
say_kept G old now new written kept status (Ok s) given stands w = record {
  output = written ++ kept;
  given = subst (G (written ++ kept)) (sym w.given.1) given;
  written = behind old now new written kept stands (w.written ∙ ap (and_then now) w.given.0);
}
say_kept G old now new written kept status (Err Failed) given stands w = (
  record {
    output = written ++ kept;
    status = status;
    given = given;
    size = length written + w.0.size;
    written = behind old now new written (take w.0.size kept) stands (w.0.written ∙ ap (λ (xs : List ℕ). and_then now (take w.0.size xs)) w.0.given.0) ∙ ap (and_then old) (sym (take-append-add written kept w.0.size));
  },
  omega (arith, w.1, ap length w.0.given.0, length-append written kept),
)
say_kept G old now new written kept status (Err Memory) given stands (inl same) =
    inr (record {
      output = written ++ kept;
      status = status;
      given = given;
      size = length written + 0;
      written = behind old now new written [] stands (same ∙ sym (and_then-nil now)) ∙ ap (and_then old) (sym (take-append-add written kept 0));
    })
say_kept G old now new written kept status (Err Memory) given stands (inr w) =
    inr (record {
      output = written ++ kept;
      status = status;
      given = given;
      size = length written + w.size;
      written = behind old now new written (take w.size kept) stands (w.written ∙ ap (λ (xs : List ℕ). and_then now (take w.size xs)) w.given.0) ∙ ap (and_then old) (sym (take-append-add written kept w.size));
    })
