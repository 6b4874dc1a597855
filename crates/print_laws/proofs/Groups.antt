-- The groups of tokens depend on their kinds alone.
use Rattle.std.proofs.Common.{◌≡◌, ℕ, zero, suc, ◌+◌, ◌-◌, List, [], ◌∷◌, take, if◌then◌else◌, Option, Some, is_some, option_and_then, refl, ap, ◌∙◌}
use Rattle.dart_tokens.specs.declared.token.Kind.{Kind}
use Rattle.dart_tokens.specs.declared.token.Token.{Token}
use Rattle.dart_tokens.specs.Groups.{Open, GroupEnd, opens, closes, nearest, after_token, is_open, closes_group, group_end, partner_of, partners_from, partners_of}
use Rattle.grammar.specs.Tokens.{is_unopened, kept, kept_before}
use Rattle.print_laws.proofs.Tokens.{OfKinds}

end_same : (place at : ℕ) (around : List Open) (ts us : List Token) → OfKinds ts us → group_end place at around ts ≡ group_end place at around us
unfolding group_end
end_same place at around [] [] k = refl
end_same place at around [] (u ∷ us) k = absurd k
end_same place at around (t ∷ ts) [] k = absurd k
end_same place at around (t ∷ ts) (u ∷ us) k =
    ap (λ (e : GroupEnd). if is_open place (after_token at t.kind around) then e else record { place = at; closed = closes_group place t.kind around }) (end_same place (at + 1) (after_token at t.kind around) ts us k.1)
    ∙ ap (λ (kind : Kind). if is_open place (after_token at kind around) then group_end place (at + 1) (after_token at kind around) us else record { place = at; closed = closes_group place kind around }) k.0

partner_same : (place : ℕ) (kind : Kind) (around : List Open) (ts us : List Token) → OfKinds ts us → partner_of place kind around ts ≡ partner_of place kind around us
partner_same place kind around ts us k =
    ap (λ (e : GroupEnd). if is_some (opens kind) then Some e.place else option_and_then (λ bracket. nearest bracket around) (closes kind)) (end_same place (place + 1) (after_token place kind around) ts us k)

partners_same_from : (place : ℕ) (around : List Open) (ts us : List Token) → OfKinds ts us → partners_from place around ts ≡ partners_from place around us
unfolding partners_from
partners_same_from place around [] [] k = refl
partners_same_from place around [] (u ∷ us) k = absurd k
partners_same_from place around (t ∷ ts) [] k = absurd k
partners_same_from place around (t ∷ ts) (u ∷ us) k =
    ap (λ (p : Option ℕ). p ∷ partners_from (place + 1) (after_token place t.kind around) ts) (partner_same place t.kind around ts us k.1)
    ∙ ap (λ (ps : List (Option ℕ)). partner_of place t.kind around us ∷ ps) (partners_same_from (place + 1) (after_token place t.kind around) ts us k.1)
    ∙ ap (λ (kind : Kind). partner_of place kind around us ∷ partners_from (place + 1) (after_token place kind around) us) k.0

pub partners-same : (ts us : List Token) → OfKinds ts us → partners_of ts ≡ partners_of us
partners-same ts us k = partners_same_from 0 [] ts us k

-- So do the numbers of tokens in them.

kept_same : (ts us : List Token) (ps : List (Option ℕ)) → OfKinds ts us → kept ts ps ≡ kept us ps
kept_same [] [] ps k = refl
kept_same [] (u ∷ us) ps k = absurd k
kept_same (t ∷ ts) [] ps k = absurd k
kept_same (t ∷ ts) (u ∷ us) [] k = ap suc (kept_same ts us [] k.1)
kept_same (t ∷ ts) (u ∷ us) (p ∷ ps) k =
    ap (λ (n : ℕ). if is_unopened t.kind p then n else suc n) (kept_same ts us ps k.1) ∙ ap (λ (kind : Kind). if is_unopened kind p then kept us ps else suc (kept us ps)) k.0

take_same : (n : ℕ) (ts us : List Token) → OfKinds ts us → OfKinds (take n ts) (take n us)
take_same zero ts us k = tt
take_same (suc n) [] [] k = tt
take_same (suc n) [] (u ∷ us) k = absurd k
take_same (suc n) (t ∷ ts) [] k = absurd k
take_same (suc n) (t ∷ ts) (u ∷ us) k = (k.0, take_same n ts us k.1)

pub size-same : (place end : ℕ) (ts us : List Token) (ps : List (Option ℕ)) → OfKinds ts us → kept_before place end ts ps ≡ kept_before place end us ps
size-same place end ts us ps k = kept_same (take (end - suc place) ts) (take (end - suc place) us) (take (end - suc place) ps) (take_same (end - suc place) ts us k)
