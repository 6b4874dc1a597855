-- Lemmas on the entries of a folder.
use Rattle.std.proofs.Common.{◌≡◌, ◌≢◌, ◌↔◌, ◌⊎◌, ℕ, zero, suc, List, [], ◌∷◌, ◌++◌, Contains, AllPairs, Option, None, Some, inl, inr, ◌∙◌, ap, arith}
use Rattle.std.specs.List.{cons_option}
use Rattle.std.proofs.lemmas.List.Elements.{Contains-append_left, Contains-append_right, Contains-append_cases, Contains-push, filter_map-append}
use Rattle.fault_io.specs.declared.traits.Entry.{Entry}
use Rattle.fault_io.specs.Stored.{Stored, entry_toward, entries_toward, AreEntries}

-- the one element of a list of at most one
only_option : {X : Type 0} (o : Option X) (x : X) → Contains (cons_option o []) x → o ≡ Some x
only_option None x h = absurd (omega (arith, h.1))
only_option (Some y) x (zero, _, same) = ap (λ z. Some z) same
only_option (Some y) x (suc k, below, _) = absurd (omega arith)

-- an entry that is the one to add is the one that the option holds
pub adds-Some : (found : Option Entry) (added entry : Entry) (now before : Type 0) → found ≡ Some added → now ↔ (before ⊎ (added ≡ entry)) → now ↔ (before ⊎ (found ≡ Some entry))
adds-Some found added entry now before f h = (there, back)
  where
    there : now → before ⊎ (found ≡ Some entry)
    there n = elim (h.0 n) [ inl b ↦ inl b | inr e ↦ inr (f ∙ ap (λ z. Some z) e) ]

    back : before ⊎ (found ≡ Some entry) → now
    back (inl b) = h.1 (inl b)
    back (inr e) = h.1 (inr (cc))

-- one more file
pub AreEntries-more : (files : Stored) (file : List ℕ × List ℕ) (folder : List ℕ) (es more : List Entry) → AreEntries files folder es
    → ((entry : Entry) → Contains more entry ↔ (Contains es entry ⊎ (entry_toward folder file.0 ≡ Some entry)))
    → (AllPairs (λ entry other. entry ≢ other) es → AllPairs (λ entry other. entry ≢ other) more)
    → AreEntries (files ++ file ∷ []) folder more
AreEntries-more files file folder es more old holds distinct =
    record { exactly = λ entry. (there entry, back entry); once = distinct old.once }
  where
    found : entries_toward folder (files ++ file ∷ []) ≡ entries_toward folder files ++ cons_option (entry_toward folder file.0) []
    found = filter_map-append (λ f. entry_toward folder f.0) files (file ∷ [])

    there : (entry : Entry) → Contains more entry → Contains (entries_toward folder (files ++ file ∷ [])) entry
    there entry h =
        elim ((holds entry).0 h) [
          | inl before ↦ rw found (Contains-append_left (entries_toward folder files) (cons_option (entry_toward folder file.0) []) entry ((old.exactly entry).0 before))
          | inr leads ↦ rw (found, leads) (Contains-append_right (entries_toward folder files) (entry ∷ []) entry (Contains-push [] entry))
        ]

    back : (entry : Entry) → Contains (entries_toward folder (files ++ file ∷ [])) entry → Contains more entry
    back entry h =
        let parts = rw found at h in
        elim (Contains-append_cases (entries_toward folder files) (cons_option (entry_toward folder file.0) []) entry parts) [
          | inl before ↦ (holds entry).1 (inl ((old.exactly entry).1 before))
          | inr leads ↦ (holds entry).1 (inr (only_option (entry_toward folder file.0) entry leads))
        ]
