-- One turn of the loops over members, items and pieces.
use Rattle.std.proofs.Common.{◌≡◌, ℕ, ◌+◌, ◌<◌, Bool, ◌||◌, List, [], ◌∷◌, ◌++◌, length, get_or, drop, codes, Option, None, Some, option_map, Ordering, Less, Equal, Greater, refl, sym, ap, subst, ◌∙◌}
use Rattle.std.specs.BTreeMap.{BTreeMap, insert_entry}
use Rattle.std.specs.Ordering.{nat_cmp, match_ordering}
use Rattle.std.specs.Cmp.Lexicographic.{slice_cmp}
use Rattle.std.specs.Cmp.{unsigned_Decides}
use Rattle.std.specs.Str.Lossy.{utf8_valid_len}
use Rattle.std.proofs.lemmas.List.{drop-drop, length-append}
use Rattle.toml.specs.Data.{Data}
use Rattle.toml.specs.declared.value.Value.{Value}
use Rattle.toml.specs.View.{view, items_view}
use Rattle.toml.proofs.Views.{items_view-drop}
use Rattle.serde_json.specs.Data.{Data as JsonData, null as json_null, boolean as json_boolean, number as json_number, string as json_string, array as json_array, object as json_object, Members as JsonMembers, member as json_member}
use Rattle.serde_json.specs.Find.{as_str as json_str}
use Rattle.fastly_toml.specs.Document.{any_item, text_at}
use Rattle.fastly_toml.specs.Kinds.{repeats_key, stands_again}
use Rattle.fastly_toml.specs.Files.{item_files, file_of}
use Rattle.fastly_toml.specs.Maps.{put_all, map_of, listed, bytes_of, item_pairs, shown, joined, Stores, stores_from}
use Rattle.fastly_toml.specs.Texts.{Pair, text_of, pairs_of}

-- bytes that are UTF-8 are their own text
pub is_text : (bytes text : List ℕ) → text ≡ bytes → utf8_valid_len bytes ≡ length bytes → Some text ≡ text_of bytes
is_text bytes text same long = rw (same, long, (unsigned_Decides (length bytes) (length bytes)).1 refl)

-- behind one part and another is behind both
pub drop_both : {A : Type 0} (one other xs : List A) → drop (length other) (drop (length one) xs) ≡ drop (length (one ++ other)) xs
drop_both one other xs = drop-drop (length other) (length one) xs ∙ ap (λ n. drop n xs) (sym (length-append one other))

-- pairs of one part and another
pub put_both : {V : Type 0} (entries one other : List (List ℕ × V)) → put_all (put_all entries one) other ≡ put_all entries (one ++ other)
put_both entries [] other = refl
put_both entries (pair ∷ one) other = put_both (insert_entry (slice_cmp nat_cmp) entries pair.0 pair.1) one other

-- a store that is put in shows its pairs
shown_at : (o : Ordering) (a b c : List (List ℕ × BTreeMap (List ℕ) (List ℕ))) → shown (match_ordering o a b c) ≡ match_ordering o (shown a) (shown b) (shown c)
shown_at Less a b c = refl
shown_at Equal a b c = refl
shown_at Greater a b c = refl

each_at : (o : Ordering) {A : Type 0} (a b c x y z : A) → a ≡ x → b ≡ y → c ≡ z → match_ordering o a b c ≡ match_ordering o x y z
each_at Less a b c x y z e f h = e
each_at Equal a b c x y z e f h = f
each_at Greater a b c x y z e f h = h

pub shown_put : (es : List (List ℕ × BTreeMap (List ℕ) (List ℕ))) (name : List ℕ) (texts : BTreeMap (List ℕ) (List ℕ)) (pairs : List Pair) → texts.entries ≡ pairs
    → shown (insert_entry (slice_cmp nat_cmp) es name texts) ≡ insert_entry (slice_cmp nat_cmp) (shown es) name pairs
shown_put [] name texts pairs is = ap (λ (ps : List Pair). (name, ps) ∷ []) is
shown_put (e ∷ es) name texts pairs is =
    shown_at (slice_cmp nat_cmp name e.0) _ _ _
    ∙ each_at (slice_cmp nat_cmp name e.0) _ _ _ _ _ _
    (ap (λ (ps : List Pair). (name, ps) ∷ (e.0, e.1.entries) ∷ shown es) is)
    (ap (λ (ps : List Pair). (e.0, ps) ∷ shown es) is)
    (ap (λ (rest : List (List ℕ × List Pair)). (e.0, e.1.entries) ∷ rest) (shown_put es name texts pairs is))

-- one more item
pub any_item_turn : (test : Data → Bool) (vs : List Value) (i : ℕ) (d : Value) → i < length vs → any_item test (items_view (drop i vs)) ≡ (test (view (get_or vs i d)) || any_item test (items_view (drop (i + 1) vs)))
any_item_turn test vs i d within = ap (any_item test) (items_view-drop vs i d within)

pub repeats_turn : (vs : List Value) (i : ℕ) (d : Value) → i < length vs → repeats_key (items_view (drop i vs)) ≡ (stands_again (view (get_or vs i d)) (items_view (drop (i + 1) vs)) || repeats_key (items_view (drop (i + 1) vs)))
repeats_turn vs i d within = ap repeats_key (items_view-drop vs i d within)

pub files_turn : (vs : List Value) (i : ℕ) (d : Value) → i < length vs → item_files (items_view (drop i vs)) ≡ file_of (text_at (codes "file") (view (get_or vs i d))) ++ item_files (items_view (drop (i + 1) vs))
files_turn vs i d within = ap item_files (items_view-drop vs i d within)

pub pairs_turn : (vs : List Value) (i : ℕ) (d : Value) (pieces : List (List ℕ)) → i < length vs → item_pairs (items_view (drop i vs)) pieces
    ≡ listed (text_at (codes "key") (view (get_or vs i d))) (bytes_of (text_at (codes "data") (view (get_or vs i d))) pieces)
    ++ item_pairs (items_view (drop (i + 1) vs)) (drop (length (file_of (text_at (codes "file") (view (get_or vs i d))))) pieces)
pairs_turn vs i d pieces within = ap (λ is. item_pairs is pieces) (items_view-drop vs i d within)

-- one more text of a JSON object
under : {A B C : Type 0} (f : B → C) (g : A → B) (found : Option A) → option_map f (option_map g found) ≡ option_map (λ a. f (g a)) found
under f g None = refl
under f g (Some a) = refl

pub text_turn : (entries : List Pair) (name : List ℕ) (value : JsonData) (text : List ℕ) (rest : JsonMembers) → json_str value ≡ Some text
    → option_map (put_all entries) (pairs_of (json_member name value rest)) ≡ option_map (put_all (insert_entry (slice_cmp nat_cmp) entries name text)) (pairs_of rest)
text_turn entries name (json_string found) text rest is =
    let same : found ≡ text = cc in subst (λ (t : List ℕ). option_map (put_all entries) (option_map (λ pairs. (name, found) ∷ pairs) (pairs_of rest)) ≡ option_map (put_all (insert_entry (slice_cmp nat_cmp) entries name t)) (pairs_of rest)) same (under (put_all entries) (λ pairs. (name, found) ∷ pairs) (pairs_of rest))
text_turn entries name json_null text rest is = absurd (cc)
text_turn entries name (json_boolean b) text rest is = absurd (cc)
text_turn entries name (json_number n) text rest is = absurd (cc)
text_turn entries name (json_array a) text rest is = absurd (cc)
text_turn entries name (json_object o) text rest is = absurd (cc)

pub no_text : (name : List ℕ) (value : JsonData) (rest : JsonMembers) → json_str value ≡ None → pairs_of (json_member name value rest) ≡ None
no_text name (json_string found) rest is = absurd (cc)
no_text name json_null rest is = refl
no_text name (json_boolean b) rest is = refl
no_text name (json_number n) rest is = refl
no_text name (json_array a) rest is = refl
no_text name (json_object o) rest is = refl

-- one more store
pub store_turn : (es : List (List ℕ × List Pair)) (name : List ℕ) (found : List Pair) (pairs : Option (List Pair)) (others : Option (List (List ℕ × List Pair))) → Some found ≡ option_map map_of pairs
    → option_map (put_all es) (joined name pairs others) ≡ option_map (put_all (insert_entry (slice_cmp nat_cmp) es name found)) others
store_turn es name found None others is = absurd (cc)
store_turn es name found (Some pairs) None is = refl
store_turn es name found (Some pairs) (Some others) is =
    let same : found ≡ map_of pairs = cc in
    ap (λ (ps : List Pair). Some (put_all (insert_entry (slice_cmp nat_cmp) es name ps) others)) (sym same)

pub no_store : (name : List ℕ) (pairs : Option (List Pair)) (others : Option (List (List ℕ × List Pair))) → None ≡ option_map map_of pairs → joined name pairs others ≡ None
no_store name None others is = refl
no_store name (Some pairs) others is = absurd (cc)

-- four maps of stores
pub four : (d c s k : Option (List (List ℕ × List Pair))) (dictionaries configs secrets kv : List (List ℕ × List Pair)) → Some dictionaries ≡ option_map map_of d → Some configs ≡ option_map map_of c → Some secrets ≡ option_map map_of s → Some kv ≡ option_map map_of k
    → Some (record { dictionaries = dictionaries; configs = configs; secrets = secrets; kv = kv }) ≡ stores_from d c s k
four (Some d) (Some c) (Some s) (Some k) dictionaries configs secrets kv e f g h =
    let e' : dictionaries ≡ map_of d = cc in let f' : configs ≡ map_of c = cc in let g' : secrets ≡ map_of s = cc in let h' : kv ≡ map_of k = cc in rw (e', f', g', h')
four None c s k dictionaries configs secrets kv e f g h = absurd (cc)
four (Some d) None s k dictionaries configs secrets kv e f g h = absurd (cc)
four (Some d) (Some c) None k dictionaries configs secrets kv e f g h = absurd (cc)
four (Some d) (Some c) (Some s) None dictionaries configs secrets kv e f g h = absurd (cc)

pub no_kv : (d c s k : Option (List (List ℕ × List Pair))) → None ≡ option_map map_of k → None ≡ stores_from d c s k
no_kv d c s (Some kv) is = absurd (cc)
no_kv None c s None is = refl
no_kv (Some d) None s None is = refl
no_kv (Some d) (Some c) None None is = refl
no_kv (Some d) (Some c) (Some s) None is = refl
