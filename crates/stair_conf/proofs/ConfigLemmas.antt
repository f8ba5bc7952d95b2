-- What is found in the table of a geometry text.
use Rattle.std.proofs.Common.{◌≡◌, ◌∙◌, ◌<◌, ◌↔◌, ℕ, zero, suc, List, [], ◌∷◌, ◌++◌, ◌+◌, Option, Some, None, Err, IfOk, IfErr, length, get_or, map, take, refl, sym, ap, ap₂, arith}
use Rattle.std.specs.Prelude.{IsTrue, false, option_map, true, unwrap_or}
use Rattle.std.specs.Option.{ok_or}
use Rattle.std.proofs.lemmas.List.{map-append, map_more}
use Rattle.std.proofs.lemmas.Option.{same_Some}
use Rattle.toml.specs.Data.{Data, Items, item, no_items, string, integer, float, boolean, datetime, array, table, as_array, as_bool}
use Rattle.toml.specs.View.{items_of, items_view, view}
use Rattle.toml.specs.declared.value.Value.{Value}
use Rattle.stair_conf.specs.Config.{number}
use Rattle.stair_conf.proofs.MapLemmas.{mapped_at}

-- what is found, as a value
pub found_as : {A E : Type 0} (o : Option A) (view : A → Data) (fault : E) (at_key : Option Data) → option_map view o ≡ at_key
    → IfOk (ok_or o fault) (λ a. at_key ≡ Some (view a))
found_as None view fault at_key same = tt
found_as (Some a) view fault at_key same = sym same

-- what is not found
pub not_found : {A E : Type 0} (o : Option A) (view : A → Data) (fault : E) (at_key : Option Data) → option_map view o ≡ at_key
    → IfErr (ok_or o fault) (λ e. (e ≡ fault) × (at_key ≡ None))
not_found None view fault at_key same = (refl, sym same)
not_found (Some a) view fault at_key same = tt

-- the fault of what is not there
pub fault_of : {A E : Type 0} (o : Option A) (fault e : E) → o ≡ None → Err e ≡ ok_or o fault → e ≡ fault
fault_of None fault e none is = cc
fault_of (Some a) fault e none is = cc

-- a value that was read exactly
pub read_as : {A E : Type 0} (o : Option A) (data_of : A → Data) (fault : E) (d : Data) (at_key : Option Data) → at_key ≡ Some d
    → ((a : A) → (o ≡ Some a) ↔ (d ≡ data_of a))
    → IfOk (ok_or o fault) (λ a. at_key ≡ Some (data_of a))
read_as None data_of fault d at_key found exact = tt
read_as (Some a) data_of fault d at_key found exact = found ∙ ap Some ((exact a).0 refl)

-- a value that is none of these
pub not_read : {A E : Type 0} (o : Option A) (data_of : A → Data) (fault : E) (d : Data) (at_key : Option Data) → at_key ≡ Some d
    → ((a : A) → (o ≡ Some a) ↔ (d ≡ data_of a))
    → IfErr (ok_or o fault) (λ e. (e ≡ fault) × ((a : A) → ¬ (at_key ≡ Some (data_of a))))
not_read None data_of fault d at_key found exact =
    (refl, λ a is. let none = (exact a).1 (same_Some d (data_of a) (sym found ∙ is)) in cc)
not_read (Some a) data_of fault d at_key found exact = tt

-- ---- arrays

pub array_of : (d : Data) (items : Items) → as_array d ≡ Some items → d ≡ array items
array_of (string s) items is = cc
array_of (integer z) items is = cc
array_of (float x) items is = cc
array_of (boolean b) items is = cc
array_of (datetime dt) items is = cc
array_of (array ds) items is = cc
array_of (table ms) items is = cc

listed : Items → List Data
listed no_items = []
listed (item d ds) = d ∷ listed ds

listed-items_of : (ds : List Data) → listed (items_of ds) ≡ ds
unfolding listed
listed-items_of [] = refl
listed-items_of (d ∷ ds) = ap (λ rest. d ∷ rest) (listed-items_of ds)

pub same_array : (a b : List Data) → array (items_of a) ≡ array (items_of b) → a ≡ b
same_array a b same =
    let inner : items_of a ≡ items_of b = cc in
    sym (listed-items_of a) ∙ ap listed inner ∙ listed-items_of b

-- an array with an element that is no number isn't one of numbers
pub no_numbers : (values : List Value) (i : ℕ) (v : Value) (read : Option ℕ) (at_key : Option Data) → at_key ≡ Some (array (items_view values))
    → i < length values → v ≡ get_or values i v → ((n : ℕ) → (read ≡ Some n) ↔ (view v ≡ number n)) → read ≡ None
    → (numbers : List ℕ) → ¬ (at_key ≡ Some (array (items_of (map number numbers))))
no_numbers values i v read at_key found within here exact none numbers is =
    let same : map view values ≡ map number numbers = same_array _ _ (same_Some _ _ (sym found ∙ is)) in
    let some = (exact (get_or numbers i 0)).1 (ap view here ∙ mapped_at view number values numbers i v 0 within same) in
    cc

-- one more element that is a number
pub one_more : (values : List Value) (i : ℕ) (v : Value) (numbers : List ℕ) (n : ℕ) → i < length values → v ≡ get_or values i v
    → map view (take i values) ≡ map number numbers → view v ≡ number n
    → map view (take (i + 1) values) ≡ map number (numbers ++ n ∷ [])
one_more values i v numbers n within here same is =
    let elem : view (get_or values i v) ≡ number n = sym (ap view here) ∙ is in
    map_more view values i v within ∙ ap₂ (λ a b. a ++ b ∷ []) same elem ∙ sym (map-append number numbers (n ∷ []))

-- an array whose elements are numbers up to some one of them begins with a number
pub begins_number : (values : List Value) (i : ℕ) (v : Value) (numbers : List ℕ) (n : ℕ) (at_key : Option Data)
    → at_key ≡ Some (array (items_view values)) → i < length values → v ≡ get_or values i v
    → map view (take i values) ≡ map number numbers → view v ≡ number n
    → (x : ℕ) × (rest : Items) × (at_key ≡ Some (array (item (number x) rest)))
begins_number [] i v numbers n at_key found within here same is = absurd (omega (arith, within))
begins_number (w ∷ ws) zero v numbers n at_key found within here same is =
    (n, items_view ws, found ∙ ap (λ d. Some (array (item d (items_view ws)))) (sym (ap view here) ∙ is))
begins_number (w ∷ ws) (suc i) v [] n at_key found within here same is = cc
begins_number (w ∷ ws) (suc i) v (x ∷ xs) n at_key found within here same is =
    let first : view w ≡ number x = ap (λ ds. get_or ds 0 (number x)) same in
    (x, items_view ws, found ∙ ap (λ d. Some (array (item d (items_view ws)))) first)

-- a value that is true
pub true_value : (d : Data) → IsTrue (unwrap_or (as_bool d) false) ↔ (d ≡ boolean true)
true_value (string s) = ((λ is. cc), (λ same. cc))
true_value (integer n) = ((λ is. cc), (λ same. cc))
true_value (float x) = ((λ is. cc), (λ same. cc))
true_value (boolean true) = ((λ is. refl), (λ same. refl))
true_value (boolean false) = ((λ is. cc), (λ same. cc))
true_value (datetime d) = ((λ is. cc), (λ same. cc))
true_value (array items) = ((λ is. cc), (λ same. cc))
true_value (table t) = ((λ is. cc), (λ same. cc))
