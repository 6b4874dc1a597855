use Rattle.std.proofs.Common.{rules, ◌≡◌, ℕ, ◌+◌, ◌<◌, nat_eq, true, length, get_or, Option, None, is_some, sym, ap, ◌∙◌, subst, arith}
use Rattle.std.proofs.lemmas.Grind.{common_steps}
use Rattle.std.proofs.lemmas.Option.{none-some}
use Rattle.std.specs.HashMap.{get}
use Rattle.namespaces.proofs.PlaceTables.{Tabled, tabled_more, tabled_same, all_tabled}
use Rattle.namespaces.proofs.place_tables.place_table.Goals as goal
use Rattle.namespaces.proofs.place_tables.place_table.Goals.{then-is_none+in_ok-insert, else-is_none}

pub loop-place-init : goal.loop-place-init
loop-place-init c =
    let none : (q : ℕ) → get nat_eq c.new-places.result q ≡ None = λ q. first_of (search rules, grind (arith, common_steps)) in
    record { places = λ q v is. absurd (none-some v (sym (none q) ∙ is)); all = λ k d less is. omega (arith, less) }

pub loop-place-preserved : goal.loop-place-preserved
loop-place-preserved c =
    let libraries = c.args.libraries.now in
    let i = c.loop-place.place in
    let d = c.index-libraries-place.result in
    let within : i < length libraries = omega arith in
    elim c.if-is_none.branch [
      | then-is_none+in_ok-insert w ↦
          (let none : get nat_eq c.loop-place.places ((get_or libraries i d).id.0) ≡ None = first_of (search rules, grind (arith, common_steps)) in
          let updates = w.in_ok-insert.ensures.updates in
          let more : Tabled libraries (i + 1) (get nat_eq w.insert.new.self) = tabled_more libraries i d within (get nat_eq c.loop-place.places) c.loop-place.invariant (get nat_eq w.insert.new.self) none updates.1 updates.2 in
          subst (λ (table : ℕ → Option ℕ). Tabled libraries (i + 1) table) (sym (ap (get nat_eq) w.places-is)) more)
      | else-is_none w ↦
          (let some : is_some (get nat_eq c.loop-place.places ((get_or libraries i d).id.0)) ≡ true = first_of (search rules, grind (arith, common_steps)) in
          subst (λ (table : ℕ → Option ℕ). Tabled libraries (i + 1) table) (sym (ap (get nat_eq) w.places-is)) (tabled_same libraries i d within (get nat_eq c.loop-place.places) c.loop-place.invariant some))
    ]

pub returns : goal.returns
returns c = record { places = all_tabled c.args.libraries.now c.loop-place.place (get nat_eq c.loop-place.places) (omega arith) c.loop-place.invariant }
