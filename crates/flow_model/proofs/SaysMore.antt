-- Which facts of a local say more.
use Rattle.std.proofs.Common.{◌≡◌, Bool, true, false, ◌&&◌, map, List, [], ◌∷◌, ◌++◌, if◌then◌else◌, refl, sym, ap, subst, ◌∙◌}
use Rattle.std.specs.Prelude.{◌||◌, filter}
use Rattle.std.proofs.lemmas.Bool.{and_parts}
use Rattle.dart_types.specs.Ty.{Ty}
use Rattle.dart_types.specs.Tables.{Table}
use Rattle.dart_types.specs.SubTest.{sub}
use Rattle.type_bounds.specs.NonNull.{non_null_of}
use Rattle.flow_model.specs.TypeTests.{proper_sub, is_formed, is_in, common_of}
use Rattle.flow_model.specs.Flow.{last_or, current_of, is_listed, IsUnpromotedIfCaptured}
use Rattle.flow_model.specs.Promote.{promoted_facts, tested_as, promote_facts, without_null_of, non_null_facts, below_current, append_facts}
use Rattle.flow_model.specs.Assign.{interest_of, appended_of, kept_chain, assign_facts}
use Rattle.flow_model.specs.Steps.{is_changed, conservative_facts}
use Rattle.flow_model.specs.Join.{join_facts}
use Rattle.flow_model.specs.Restrict.{restrict_facts}
use Rattle.flow_model.specs.Order.{Includes, SaysMore}
use Rattle.flow_model.specs.declared.locals.LocalId.{LocalId}
use Rattle.flow_model.specs.declared.locals.Facts.{Facts}
use Rattle.flow_model.proofs.JoinLaws.{is_in-append, is_in-filter}

-- where the one holds, so does one of both
left_true : (a b : Bool) → a ≡ true → (a || b) ≡ true
left_true true b h = refl
left_true false b h = cc

-- where the other does
pub right_true : (a b : Bool) → b ≡ true → (a || b) ≡ true
right_true true b h = refl
right_true false b h = h

-- both hold
pub and_true : (a b : Bool) → a ≡ true → b ≡ true → (a && b) ≡ true
and_true true b first second = second
and_true false b first second = cc

-- of two of which each holds only where the one after it does
either_keeps : (a b c d : Bool) → (a ≡ true → c ≡ true) → (b ≡ true → d ≡ true) → (a || b) ≡ true → (c || d) ≡ true
either_keeps true b c d first second h = left_true c d (first refl)
either_keeps false b c d first second h = right_true c d (second h)

-- the same of both
both_keep : (a b c d : Bool) → (a ≡ true → c ≡ true) → (b ≡ true → d ≡ true) → (a && b) ≡ true → (c && d) ≡ true
both_keep true b c d first second h = and_true c d (first refl) (second h)
both_keep false b c d first second h = cc

-- a list includes itself
pub includes-refl : (ts : List Ty) → Includes ts ts
includes-refl ts = record { each = λ t h. h }

-- and what a list that it includes includes
includes-trans : (ss ts us : List Ty) → Includes ss ts → Includes ts us → Includes ss us
includes-trans ss ts us a b = record { each = λ t h. a.each t (b.each t h) }

-- each includes the empty one
includes-none : (ss : List Ty) → Includes ss []
includes-none ss = record { each = λ t h. let no : false ≡ true = h in cc }

-- a list includes its front
includes-front : (ss more : List Ty) → Includes (ss ++ more) ss
includes-front ss more = record { each = λ t h. is_in-append ss more t ∙ left_true (is_in ss t) (is_in more t) h }

-- lists put behind one another
includes-append : (ss ts us vs : List Ty) → Includes ss ts → Includes us vs → Includes (ss ++ us) (ts ++ vs)
includes-append ss ts us vs first second = record {
  each = λ t h.
      is_in-append ss us t
      ∙ either_keeps (is_in ts t) (is_in vs t) (is_in ss t) (is_in us t) (first.each t) (second.each t) (sym (is_in-append ts vs t) ∙ h);
}

-- a list includes what a test keeps of it
includes-filter : (p : Ty → Bool) (ss : List Ty) → Includes ss (filter p ss)
includes-filter p ss = record { each = λ t h. (and_parts (is_in ss t) (p t) (sym (is_in-filter p t ss) ∙ h)).0 }

-- what a test keeps of two lists
includes-filters : (p : Ty → Bool) (ss ts : List Ty) → Includes ss ts → Includes (filter p ss) (filter p ts)
includes-filters p ss ts more = record {
  each = λ t h.
      let both = and_parts (is_in ts t) (p t) (sym (is_in-filter p t ts) ∙ h) in
      is_in-filter p t ss ∙ and_true (is_in ss t) (p t) (more.each t both.0) both.1;
}

-- both lists include what they have in common
includes-common : (ss ts : List Ty) → Includes ts (common_of ss ts)
includes-common ss ts = record { each = λ t h. (and_parts (is_in ss t) (is_in ts t) (sym (is_in-filter (is_in ts) t ss) ∙ h)).1 }

-- and that includes each list which both include
common-includes : (ss ts us : List Ty) → Includes ss us → Includes ts us → Includes (common_of ss ts) us
common-includes ss ts us first second = record {
  each = λ t h. is_in-filter (is_in ts) t ss ∙ and_true (is_in ss t) (is_in ts t) (first.each t h) (second.each t h);
}

-- a list that stands only where a local isn't captured, which it is by the first only if it is by the second
includes-unless : (ss ts : List Ty) (a b : Bool) → (a ≡ true → b ≡ true) → Includes ss ts → Includes (if a then [] else ss) (if b then [] else ts)
includes-unless ss ts a true keeps more = includes-none (if a then [] else ss)
includes-unless ss ts true false keeps more = let no : false ≡ true = keeps refl in cc
includes-unless ss ts false false keeps more = more

-- the same of one list
includes-if_free : (ss ts : List Ty) (a : Bool) → Includes ss ts → (a ≡ true → ts ≡ []) → Includes (if a then [] else ss) ts
includes-if_free ss ts true more none = rw (none refl) (includes-none [])
includes-if_free ss ts false more none = more

-- a list includes itself where it stands
includes-some : (ss : List Ty) (a : Bool) → Includes ss (if a then [] else ss)
includes-some ss true = includes-none ss
includes-some ss false = includes-refl ss

-- either of two lists
includes-either : (b : Bool) (ss ts us vs : List Ty) → Includes ss ts → Includes us vs → Includes (if b then ss else us) (if b then ts else vs)
includes-either true ss ts us vs first second = first
includes-either false ss ts us vs first second = second

-- what follows from each of two follows from one of them
either_of : (a b c : Bool) → (a ≡ true → c ≡ true) → (b ≡ true → c ≡ true) → (a || b) ≡ true → c ≡ true
either_of true b c first second h = first refl
either_of false b c first second h = second h

-- facts say as much as themselves
pub says_as_much : (l : Facts) → SaysMore l l
says_as_much l = record {
  declared = refl;
  chain = includes-refl l.chain;
  assigned = λ h. h;
  unassigned = λ h. h;
  captured = λ h. h;
}

-- and what facts say of which they say more
pub says_more_still : (l m n : Facts) → SaysMore l m → SaysMore m n → SaysMore l n
says_more_still l m n a b = record {
  declared = a.declared ∙ b.declared;
  chain = includes-trans l.chain m.chain n.chain a.chain b.chain;
  assigned = λ h. a.assigned (b.assigned h);
  unassigned = λ h. a.unassigned (b.unassigned h);
  captured = λ h. b.captured (a.captured h);
}

-- a promotion says more
pub promoted_says_more : (types : List Ty) (l : Facts) → SaysMore (promoted_facts types l) l
promoted_says_more types l = record {
  declared = refl;
  chain = includes-front l.chain (if l.captured then [] else types);
  assigned = λ h. h;
  unassigned = λ h. h;
  captured = λ h. h;
}

-- a test does
pub tested_says_more : (table : Table) (to : Ty) (l : Facts) → SaysMore (promote_facts table to l) l
tested_says_more table to l = record {
  declared = refl;
  chain = includes-front l.chain (if l.captured then [] else tested_as table to (current_of l));
  assigned = λ h. h;
  unassigned = λ h. h;
  captured = λ h. h;
}

-- so does that it isn't null
pub non_null_says_more : (table : Table) (l : Facts) → SaysMore (non_null_facts table l) l
non_null_says_more table l = promoted_says_more (without_null_of table (current_of l)) l

-- and that it has a type
pub append_says_more : (table : Table) (to : Ty) (l : Facts) → SaysMore (append_facts table to l) l
append_says_more table to l = promoted_says_more (below_current table to (current_of l)) l

-- a write says more than what is left of the facts around code that writes the local
pub write_says_more : (table : Table) (written : Ty) (l : Facts) (b : Bool) → SaysMore (if b then assign_facts table written l else l) (if b then record l { chain = []; unassigned = false } else l)
write_says_more table written l true = record {
  declared = refl;
  chain = includes-none (assign_facts table written l).chain;
  assigned = λ h. refl;
  unassigned = λ h. h;
  captured = λ h. h;
}
write_says_more table written l false = says_as_much l

-- the same promotion of facts that say more
promoted_keeps : (types more : List Ty) (l m : Facts) → types ≡ more → SaysMore l m → SaysMore (promoted_facts types l) (promoted_facts more m)
promoted_keeps types more l m same says = record {
  declared = says.declared;
  chain = includes-append l.chain m.chain (if l.captured then [] else types) (if m.captured then [] else more) says.chain
      (includes-unless types more l.captured m.captured says.captured (rw same (includes-refl more)));
  assigned = says.assigned;
  unassigned = says.unassigned;
  captured = says.captured;
}

module _ (table : Table) where
  -- a test of a local of one current type
  pub test_keeps : (to : Ty) (l m : Facts) → current_of l ≡ current_of m → SaysMore l m → SaysMore (promote_facts table to l) (promote_facts table to m)
  test_keeps to l m same says =
      let both = promoted_keeps (tested_as table to (current_of l)) (tested_as table to (current_of m)) l m (ap (tested_as table to) same) says in
      record {
        declared = both.declared;
        chain = both.chain;
        assigned = both.assigned;
        unassigned = both.unassigned;
        captured = both.captured;
      }

  -- that it isn't null
  pub non_null_keeps : (l m : Facts) → current_of l ≡ current_of m → SaysMore l m → SaysMore (non_null_facts table l) (non_null_facts table m)
  non_null_keeps l m same =
      promoted_keeps (without_null_of table (current_of l)) (without_null_of table (current_of m)) l m (ap (without_null_of table) same)

  -- that it has a type
  pub append_keeps : (to : Ty) (l m : Facts) → current_of l ≡ current_of m → SaysMore l m → SaysMore (append_facts table to l) (append_facts table to m)
  append_keeps to l m same =
      promoted_keeps (below_current table to (current_of l)) (below_current table to (current_of m)) l m (ap (below_current table to) same)

  -- what a write promotes to, of facts that agree on what it is found by
  appended_alike : (written : Ty) (l m : Facts) → l.ty ≡ m.ty → l.tested ≡ m.tested → last_or l.ty (kept_chain table written l) ≡ last_or m.ty (kept_chain table written m) → appended_of table written (last_or l.ty (kept_chain table written l)) (interest_of table l) ≡ appended_of table written (last_or m.ty (kept_chain table written m)) (interest_of table m)
  appended_alike written l m types tested last =
      let types_of = λ (t : Ty) (ts : List Ty). (t ∷ ts) ++ filter is_formed (map (non_null_of table) (t ∷ ts)) in
      let current = last_or l.ty (kept_chain table written l) in
      ap (λ (t : Ty). appended_of table written current (types_of t l.tested)) types
      ∙ (ap (λ (ts : List Ty). appended_of table written current (types_of m.ty ts)) tested
      ∙ ap (λ (t : Ty). appended_of table written t (types_of m.ty m.tested)) last)

  -- a write of a local that was tested alike and is left with the same type
  pub assign_keeps : (written : Ty) (l m : Facts) → l.tested ≡ m.tested → last_or l.ty (kept_chain table written l) ≡ last_or m.ty (kept_chain table written m) → SaysMore l m → SaysMore (assign_facts table written l) (assign_facts table written m)
  assign_keeps written l m tested last says =
      let appended_l = appended_of table written (last_or l.ty (kept_chain table written l)) (interest_of table l) in
      let appended_m = appended_of table written (last_or m.ty (kept_chain table written m)) (interest_of table m) in
      let same : appended_l ≡ appended_m = appended_alike written l m says.declared tested last in
      record {
        declared = says.declared;
        chain = includes-append (kept_chain table written l) (kept_chain table written m) (if l.captured then [] else appended_l) (if m.captured then [] else appended_m)
            (includes-filters (sub table written) l.chain m.chain says.chain)
            (includes-unless appended_l appended_m l.captured m.captured says.captured (rw same (includes-refl appended_m)));
        assigned = λ h. refl;
        unassigned = λ h. h;
        captured = says.captured;
      }

-- what code could change: facts say more than without it
conservative_says_less_at : (l : Facts) (changed captured : Bool) → SaysMore l (if changed then record l { chain = []; unassigned = false; captured = l.captured || captured } else l)
conservative_says_less_at l true captured = record {
  declared = refl;
  chain = includes-none l.chain;
  assigned = λ h. h;
  unassigned = λ h. let no : false ≡ true = h in cc;
  captured = λ h. left_true l.captured captured h;
}
conservative_says_less_at l false captured = says_as_much l

-- so it is of each local
pub conservative_says_less : (written captured : List LocalId) (l : Facts) → SaysMore l (conservative_facts written captured l)
conservative_says_less written captured l =
    conservative_says_less_at l (is_changed written captured l.var) (is_listed captured l.var)

-- the step of the next lemma
conservative_keeps_at : (l m : Facts) (changed captured : Bool) → SaysMore l m → SaysMore (if changed then record l { chain = []; unassigned = false; captured = l.captured || captured } else l) (if changed then record m { chain = []; unassigned = false; captured = m.captured || captured } else m)
conservative_keeps_at l m true captured says = record {
  declared = says.declared;
  chain = includes-refl [];
  assigned = says.assigned;
  unassigned = λ h. h;
  captured = either_keeps l.captured captured m.captured captured says.captured (λ h. h);
}
conservative_keeps_at l m false captured says = says

-- it keeps which facts say more
pub conservative_keeps : (written captured : List LocalId) (l m : Facts) → l.var ≡ m.var → SaysMore l m → SaysMore (conservative_facts written captured l) (conservative_facts written captured m)
conservative_keeps written captured l m same says =
    let left = λ (v : LocalId) (f : Facts). (if is_changed written captured v then record f { chain = []; unassigned = false; captured = f.captured || is_listed captured v } else f) in
    let P : LocalId → Type 0 = λ v. SaysMore (left v l) (conservative_facts written captured m) in
    subst P (sym same) (conservative_keeps_at l m (is_changed written captured m.var) (is_listed captured m.var) says)

-- the facts on each of two paths say more than those where they meet
pub first_says_more : (l m : Facts) → SaysMore l (join_facts l m)
first_says_more l m = record {
  declared = refl;
  chain = includes-trans l.chain (common_of l.chain m.chain) (join_facts l m).chain (includes-filter (is_in m.chain) l.chain) (includes-some (common_of l.chain m.chain) (l.captured || m.captured));
  assigned = λ h. (and_parts l.assigned m.assigned h).0;
  unassigned = λ h. (and_parts l.unassigned m.unassigned h).0;
  captured = λ h. left_true l.captured m.captured h;
}

-- so do those on the second
pub second_says_more : (l m : Facts) → l.ty ≡ m.ty → SaysMore m (join_facts l m)
second_says_more l m same = record {
  declared = sym same;
  chain = includes-trans m.chain (common_of l.chain m.chain) (join_facts l m).chain (includes-common l.chain m.chain) (includes-some (common_of l.chain m.chain) (l.captured || m.captured));
  assigned = λ h. (and_parts l.assigned m.assigned h).1;
  unassigned = λ h. (and_parts l.unassigned m.unassigned h).1;
  captured = λ h. right_true l.captured m.captured h;
}

-- and what both say more than, those say more than too
pub join_says_more : (l m k : Facts) → IsUnpromotedIfCaptured k → SaysMore l k → SaysMore m k → SaysMore (join_facts l m) k
join_says_more l m k free first second = record {
  declared = first.declared;
  chain = includes-if_free (common_of l.chain m.chain) k.chain (l.captured || m.captured)
      (common-includes l.chain m.chain k.chain first.chain second.chain)
      (λ h. free (either_of l.captured m.captured k.captured first.captured second.captured h));
  assigned = λ h. and_true l.assigned m.assigned (first.assigned h) (second.assigned h);
  unassigned = λ h. and_true l.unassigned m.unassigned (first.unassigned h) (second.unassigned h);
  captured = either_of l.captured m.captured k.captured first.captured second.captured;
}

-- what is known behind a body and a block, by whether the block changes the local
abbrev behind : Bool → List Ty → List Ty → Facts → Facts → Facts
behind changed more tested a b = record {
  var = a.var;
  ty = a.ty;
  chain = (if a.captured || b.captured then [] else if changed then b.chain else a.chain ++ more);
  tested = tested;
  assigned = a.assigned || b.assigned;
  unassigned = a.unassigned && b.unassigned;
  captured = a.captured || b.captured;
}

-- the step of the next lemma
restrict_says_more_at : (changed captured : Bool) (more tested : List Ty) (a b k : Facts) → IsUnpromotedIfCaptured k → SaysMore a k → SaysMore b (if changed then record k { chain = []; unassigned = false; captured = k.captured || captured } else k) → SaysMore (behind changed more tested a b) (if changed then record k { chain = []; unassigned = false; captured = k.captured || captured } else k)
restrict_says_more_at true captured more tested a b k free first second = record {
  declared = first.declared;
  chain = includes-none (behind true more tested a b).chain;
  assigned = λ h. left_true a.assigned b.assigned (first.assigned h);
  unassigned = λ h. let no : false ≡ true = h in cc;
  captured = either_of a.captured b.captured (k.captured || captured) (λ h. left_true k.captured captured (first.captured h)) second.captured;
}
restrict_says_more_at false captured more tested a b k free first second =
    let captures = either_of a.captured b.captured k.captured first.captured second.captured in
    record {
      declared = first.declared;
      chain = includes-if_free (a.chain ++ more) k.chain (a.captured || b.captured)
          (includes-trans (a.chain ++ more) a.chain k.chain (includes-front a.chain more) first.chain)
          (λ h. free (captures h));
      assigned = λ h. left_true a.assigned b.assigned (first.assigned h);
      unassigned = λ h. and_true a.unassigned b.unassigned (first.unassigned h) (second.unassigned h);
      captured = captures;
    }

-- what is known behind both says more than what both say more than, around the block
pub restrict_says_more : (table : Table) (written captured : List LocalId) (a b k : Facts) → a.var ≡ k.var → IsUnpromotedIfCaptured k → SaysMore a k → SaysMore b (conservative_facts written captured k) → SaysMore (restrict_facts table written captured a b) (conservative_facts written captured k)
restrict_says_more table written captured a b k same free first second =
    let further = filter (λ t. proper_sub table t (current_of a)) b.chain in
    let tested = (restrict_facts table written captured a b).tested in
    let P : LocalId → Type 0 = λ v. SaysMore (behind (is_changed written captured v) further tested a b) (conservative_facts written captured k) in
    subst P (sym same) (restrict_says_more_at (is_changed written captured k.var) (is_listed captured k.var) further tested a b k free first second)

-- the step of the next lemma
restrict_keeps_at : (table : Table) (changed : Bool) (tested others : List Ty) (a b c d : Facts) → current_of a ≡ current_of c → SaysMore a c → SaysMore b d → SaysMore (behind changed (filter (λ t. proper_sub table t (current_of a)) b.chain) tested a b) (behind changed (filter (λ t. proper_sub table t (current_of c)) d.chain) others c d)
restrict_keeps_at table changed tested others a b c d same first second =
    let further = filter (λ t. proper_sub table t (current_of a)) b.chain in
    let others_further = filter (λ t. proper_sub table t (current_of c)) d.chain in
    let captures = either_keeps a.captured b.captured c.captured d.captured first.captured second.captured in
    let more : Includes further others_further = rw same (includes-filters (λ t. proper_sub table t (current_of c)) b.chain d.chain second.chain) in
    record {
      declared = first.declared;
      chain = includes-unless (if changed then b.chain else a.chain ++ further) (if changed then d.chain else c.chain ++ others_further) (a.captured || b.captured) (c.captured || d.captured) captures
          (includes-either changed b.chain d.chain (a.chain ++ further) (c.chain ++ others_further) second.chain (includes-append a.chain c.chain further others_further first.chain more));
      assigned = either_keeps c.assigned d.assigned a.assigned b.assigned first.assigned second.assigned;
      unassigned = both_keep c.unassigned d.unassigned a.unassigned b.unassigned first.unassigned second.unassigned;
      captured = captures;
    }

-- behind a body that leaves the same current type it keeps which facts say more
pub restrict_keeps : (table : Table) (written captured : List LocalId) (a b c d : Facts) → a.var ≡ c.var → current_of a ≡ current_of c → SaysMore a c → SaysMore b d → SaysMore (restrict_facts table written captured a b) (restrict_facts table written captured c d)
restrict_keeps table written captured a b c d local same first second =
    let P : LocalId → Type 0 = λ v. SaysMore (restrict_facts table written captured a b) (behind (is_changed written captured v) (filter (λ t. proper_sub table t (current_of c)) d.chain) (restrict_facts table written captured c d).tested c d) in
    subst P local (restrict_keeps_at table (is_changed written captured a.var) (restrict_facts table written captured a b).tested (restrict_facts table written captured c d).tested a b c d same first second)
