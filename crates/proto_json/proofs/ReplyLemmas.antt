-- The text of a reply: no reply holds a float, and errors are written one after another.
use Rattle.std.proofs.Common.{◌≡◌, ℕ, List, [], ◌∷◌, ◌++◌, true, false, flat_map, codes, refl, sym, ap, ◌∙◌, append_assoc}
use Rattle.json.specs.Print.{escape_byte, escape}
use Rattle.serde_json.specs.Data.{Data, object, array, string, member, no_members, Items}
use Rattle.serde_json.specs.Written.{has_float, items_have_float, compact_text, items_text}
use Rattle.proto_json.specs.Replies.{rows_data, reply_data}
use Rattle.proto_json.specs.RowTexts.{row_text, next_row_text, rows_text, errors_front, errors_back}
use Rattle.proto_json.specs.declared.reply.ErrorRow.{ErrorRow}
use Rattle.proto_json.specs.declared.reply.ReplyBody.{ReplyBody}
use Rattle.proto_json.specs.declared.reply.ReplyBody.TheVariants.{Plain, Errors, Work, Error}

-- the objects of errors hold none
pub items_have_float-rows_data : (rows : List ErrorRow) → items_have_float (rows_data rows) ≡ false
items_have_float-rows_data [] = refl
items_have_float-rows_data (r ∷ rows) = items_have_float-rows_data rows

-- the object of a reply holds none
pub has_float-reply_data : (id : List ℕ) (body : ReplyBody) → has_float (reply_data id body) ≡ false
has_float-reply_data id Plain = refl
has_float-reply_data id (Errors rows) = rw (items_have_float-rows_data rows)
has_float-reply_data id (Work parses links checks) = refl
has_float-reply_data id (Error code) = refl

-- a text in front of two others, taken apart
join_items : (xs ys zs : List ℕ) → zs ≡ ys ++ 93 ∷ [] → xs ++ zs ≡ (xs ++ ys) ++ 93 ∷ []
join_items xs ys zs e = ap (λ text. xs ++ text) e ∙ sym (append_assoc xs ys (93 ∷ []))

-- the objects behind a first one, with the bracket that closes the list
items_text-next : (rows : List ErrorRow) → items_text true (rows_data rows) ≡ flat_map next_row_text rows ++ 93 ∷ []
items_text-next [] = refl
items_text-next (row ∷ rows) = join_items (44 ∷ row_text row) (flat_map next_row_text rows) (items_text true (rows_data rows)) (items_text-next rows)

-- all of them
items_text-rows : (rows : List ErrorRow) → items_text false (rows_data rows) ≡ rows_text rows ++ 93 ∷ []
items_text-rows [] = refl
items_text-rows (row ∷ rows) = join_items (row_text row) (flat_map next_row_text rows) (items_text true (rows_data rows)) (items_text-next rows)

-- a reply that lists these items
abbrev listing : List ℕ → Items → Data
listing id items =
    object (member (codes "id") (string id)
    (member (codes "result") (object (member (codes "errors") (array items) no_members)) no_members))

-- the texts of a reply's parts in another grouping
regroup : (front middle text : List ℕ) → front ++ (middle ++ (((text ++ 93 ∷ []) ++ 125 ∷ []) ++ 125 ∷ [])) ≡ ((front ++ middle) ++ text) ++ (93 ∷ 125 ∷ 125 ∷ [])
regroup front middle text = simp append_assoc

-- its text is what stands before the items, their texts, and what stands behind them
listing_text : (id text : List ℕ) (items : Items) → items_text false items ≡ text ++ 93 ∷ [] → compact_text (listing id items) ≡ (errors_front id ++ text) ++ errors_back
unfolding escape_byte
listing_text id text items e =
    rw e (ap (λ rest. codes "{\"id\":\"" ++ rest) (regroup (escape id ++ 34 ∷ []) (codes ",\"result\":{\"errors\":[") text))

-- the text of a reply that lists errors
pub errors_text : (id : List ℕ) (rows : List ErrorRow) → compact_text (reply_data id (Errors rows)) ≡ (errors_front id ++ rows_text rows) ++ errors_back
errors_text id rows = listing_text id (rows_text rows) (rows_data rows) (items_text-rows rows)
