-- The parts of a url make its backend, and a backend tells the parts that made it.
use Rattle.std.proofs.Common.{◌≡◌, ◌<◌, ◌≤◌, ◌+◌, ◌^◌, ◌*◌, ◌/◌, ◌%◌, ℕ, zero, suc, Bool, true, false, cond, List, [], ◌∷◌, ◌++◌, length, take, drop, refl, sym, ◌∙◌, ap, subst, arith, ◌⊎◌, inl, inr, Option, None, Some, append-nil, append_assoc, length-append, take-append-drop, length-drop}
use Rattle.std.specs.Prelude.{◌==◌, ◌&&◌, not, if◌then◌else◌, nat_lt, nat_le, codes, decimal, unwrap_or, bytes_eq, IsTrue, IfSome, option_and_then, option_map}
use Rattle.std.specs.Option.{option_map_or}
use Rattle.std.specs.List.{list_all, starts_with}
use Rattle.std.proofs.lemmas.Bool.{and_parts, ltb-true, lt-ltb, leb-true, le-leb}
use Rattle.std.proofs.lemmas.Bool.Decides.{nat_tests}
use Rattle.std.proofs.lemmas.Fmt.{decimal_is_IsNumeral, decimal_by_steps}
use Rattle.std.proofs.lemmas.List.{take_at, drop_at, drop-drop}
use Rattle.std.proofs.lemmas.List.Folds.{list_all-append}
use Rattle.std.proofs.lemmas.Option.{cond_some, same_Some}
use Rattle.std.proofs.lemmas.Slice.Eq.{bytes_eq-Decides}
use Rattle.edge_words.specs.Reading.{number_in}
use Rattle.edge_words.proofs.Numbers.{same_bytes, number_takes, number_again}
use Rattle.fastly_toml.specs.declared.settings.Backend.{Backend}
use Rattle.fastly_toml.specs.Urls.{place_of, is_shown, is_host_byte, is_inner_byte, is_made_of, after_plain, after_inner, after_host, is_port, told_or_80, with_port, address_of, located, backend_of}
use Rattle.fastly_toml.specs.UrlForm.{scheme, IsHost, port_text, port_or_80, IsPort, IsPath, IsUrl}
use Rattle.fastly_toml.proofs.Places.{is_other, lacks, IsAt, place_behind, none_before, at_place, same_byte}

-- ---- bytes

others : (test : ℕ → Bool) (c : ℕ) → test c ≡ false → (b : ℕ) → test b ≡ true → is_other c b ≡ true
others test c fails b passes =
    let with : (t : Bool) → is_other c b ≡ t → is_other c b ≡ true =
    elim [
      | true ↦ λ e. e
      | false ↦ λ e. absurd (let same = ap test (same_byte c b e) in cc)
    ] in with _ refl

passes_lack : (test : ℕ → Bool) (c : ℕ) → test c ≡ false → (bytes : List ℕ) → list_all test bytes ≡ true → lacks c bytes ≡ true
passes_lack test c fails [] all = refl
passes_lack test c fails (b ∷ bytes) all =
    let parts = and_parts (test b) (list_all test bytes) all in
    rw (others test c fails b parts.0, passes_lack test c fails bytes parts.1) refl

lacks_both : (c : ℕ) (front rest : List ℕ) → lacks c front ≡ true → lacks c rest ≡ true → lacks c (front ++ rest) ≡ true
lacks_both c front rest a b = rw (list_all-append (is_other c) front rest, a, b) refl

digits_are : (n : ℕ) → n < 2 ^ 64 → list_all (nat_lt 47) (decimal n) ≡ true
digits_are n fits =
    decimal_by_steps (λ _ digits. list_all (nat_lt 47) digits ≡ true)
    (λ k small. grind (arith, nat_tests))
    (λ k digits big front. rw (list_all-append (nat_lt 47) digits ((48 + k % 10) ∷ []), front) (grind (arith, nat_tests)))
    n fits

made_all : (test : ℕ → Bool) (bytes : List ℕ) → is_made_of test bytes ≡ true → list_all test bytes ≡ true
made_all test bytes made = (and_parts (nat_lt 0 (length bytes)) (list_all test bytes) made).1

-- ---- from the parts to the backend

port_at : (port : Option ℕ) → IsAt 58 (port_text port)
port_at None = inl refl
port_at (Some n) = inr (decimal n, refl)

port_lacks : (port : Option ℕ) → IsPort port → lacks 47 (port_text port) ≡ true
port_lacks None is = refl
port_lacks (Some n) is = passes_lack (nat_lt 47) 47 refl (decimal n) (digits_are n (omega (arith, is.1)))

port_is : (n : ℕ) → IsPort (Some n) → is_port (decimal n) ≡ true
port_is n is = rw (number_again n (omega (arith, is.1)), lt-ltb 0 n is.0, le-leb n 65535 is.1) refl

port_again : (host : List ℕ) (port : Option ℕ) → IsPort port → with_port (host ++ port_text port) (port_text port) ≡ Some (host ++ port_or_80 port)
port_again host None is = ap (λ (xs : List ℕ). Some (xs ++ codes ":80")) (append-nil host)
port_again host (Some n) is = rw (port_is n is) refl

plain_again : (host port : List ℕ) → is_made_of is_host_byte host ≡ true → IsAt 58 port → after_plain (host ++ port) ≡ Some port
plain_again host port made at =
    let place = place_behind 58 host port (passes_lack is_host_byte 58 refl host (made_all is_host_byte host made)) at in
    rw (place, take_at host port (length host) refl, made, drop_at host port (length host) refl) refl

one_behind : (front : List ℕ) (b : ℕ) (rest : List ℕ) → drop (length front + 1) (front ++ (b ∷ rest)) ≡ rest
one_behind front b rest = sym (drop-drop 1 (length front) (front ++ (b ∷ rest))) ∙ ap (drop 1) (drop_at front (b ∷ rest) (length front) refl)

inner_again : (inner port : List ℕ) → is_made_of is_inner_byte inner ≡ true → after_inner (inner ++ (93 ∷ port)) ≡ Some port
inner_again inner port made =
    let place = place_behind 93 inner (93 ∷ port) (passes_lack is_inner_byte 93 refl inner (made_all is_inner_byte inner made)) (inr (port, refl)) in
    let within : length inner < length (inner ++ (93 ∷ port)) = omega (arith, length-append inner (93 ∷ port)) in
    rw (place, lt-ltb (length inner) (length (inner ++ (93 ∷ port))) within, take_at inner (93 ∷ port) (length inner) refl, made, one_behind inner 93 port) refl

host_first : (b : ℕ) (bytes : List ℕ) → is_made_of is_host_byte (b ∷ bytes) ≡ true → (b == 91) ≡ false
host_first b bytes made =
    let parts = and_parts (is_host_byte b) (list_all is_host_byte bytes) (made_all is_host_byte (b ∷ bytes) made) in
    let other = others is_host_byte 91 refl b parts.0 in
    grind (arith, nat_tests)

host_again : (host : List ℕ) (port : Option ℕ) → IsHost host → after_host (host ++ port_text port) ≡ Some (port_text port)
host_again [] port (inl made) = absurd (cc made)
host_again (b ∷ host) port (inl made) = rw (host_first b host made) (plain_again (b ∷ host) (port_text port) made (port_at port))
host_again host port (inr (inner, made, e)) =
    rw (e, append_assoc inner (93 ∷ []) (port_text port)) (inner_again inner (port_text port) made)

address_again : (host : List ℕ) (port : Option ℕ) → IsHost host → IsPort port → address_of (host ++ port_text port) ≡ Some (host ++ port_or_80 port)
address_again host port is is_port = rw (host_again host port is) (port_again host port is_port)

host_lacks : (host : List ℕ) → IsHost host → lacks 47 host ≡ true
host_lacks host (inl made) = passes_lack is_host_byte 47 refl host (made_all is_host_byte host made)
host_lacks host (inr (inner, made, e)) =
    let within = passes_lack is_inner_byte 47 refl inner (made_all is_inner_byte inner made) in
    rw (e, lacks_both 47 inner (93 ∷ []) within refl) refl

path_at : (path : List ℕ) → IsPath path → IsAt 47 path
path_at [] is = inl refl
path_at (b ∷ bytes) is = inr (bytes, ap (λ (n : ℕ). n ∷ bytes) is.0)

path_shown : (path : List ℕ) → IsPath path → list_all is_shown path ≡ true
path_shown [] is = refl
path_shown (b ∷ bytes) is = rw (is.0, is.1) refl

located_again : (https : Bool) (host : List ℕ) (port : Option ℕ) (path : List ℕ) → IsHost host → IsPort port → IsPath path
    → located https (host ++ (port_text port ++ path)) ≡ Some (record { address = host ++ port_or_80 port; https = https })
located_again https host port path is is_port is_path =
    let authority : List ℕ = host ++ port_text port in
    let place = place_behind 47 authority path (lacks_both 47 host (port_text port) (host_lacks host is) (port_lacks port is_port)) (path_at path is_path) in
    rw (
      sym (append_assoc host (port_text port) path),
      place,
      drop_at authority path (length authority) refl,
      path_shown path is_path,
      take_at authority path (length authority) refl,
      address_again host port is is_port,
    ) refl

scheme_read : (https : Bool) (rest : List ℕ) → backend_of (scheme https ++ rest) ≡ located https rest
scheme_read false rest = refl
scheme_read true rest = refl

pub backend_again : (url : List ℕ) (backend : Backend) → IsUrl url backend → backend_of url ≡ Some backend
backend_again url backend is =
    let made = located_again backend.https is.host is.port is.path is.is_host is.is_port is.is_path in
    let whole = ap (λ (address : List ℕ). Some (record { address = address; https = backend.https })) (sym is.address_is) in
    ap backend_of is.url_is ∙ (scheme_read backend.https (is.host ++ (port_text is.port ++ is.path)) ∙ (made ∙ whole))

-- ---- from the backend to the parts

chosen_some : {X : Type 0} (t : Bool) (o : Option X) (x : X) → (if t then o else None) ≡ Some x → (t ≡ true) × (o ≡ Some x)
chosen_some true o x e = (refl, e)
chosen_some false o x e = absurd (cc e)

mapped_some : {X Y : Type 0} (f : X → Y) (o : Option X) (y : Y) → option_map f o ≡ Some y → (x : X) × (o ≡ Some x) × (f x ≡ y)
mapped_some f None y e = absurd (cc e)
mapped_some f (Some x) y e = (x, refl, same_Some _ _ e)

then_some : {X Y : Type 0} (f : X → Option Y) (o : Option X) (y : Y) → option_and_then f o ≡ Some y → (x : X) × (o ≡ Some x) × (f x ≡ Some y)
then_some f None y e = absurd (cc e)
then_some f (Some x) y e = (x, refl, e)

-- what stands behind the host, read as a port
record PortTaken (authority rest address : List ℕ) : Type 0 where
  port : Option ℕ
  is_port : IsPort port
  rest_is : rest ≡ port_text port
  address_is : (host : List ℕ) → authority ≡ host ++ rest → address ≡ host ++ port_or_80 port

number_port : (digits : List ℕ) → is_port digits ≡ true → (n : ℕ) × IsPort (Some n) × (digits ≡ decimal n)
number_port digits is =
    let with : (read : Option ℕ) → number_in digits ≡ read → option_map_or (λ n. nat_lt 0 n && nat_le n 65535) read false ≡ true → (n : ℕ) × IsPort (Some n) × (digits ≡ decimal n) =
    elim [
      | None ↦ λ e test. absurd (cc test)
      | Some n ↦ λ e test. let parts = and_parts (nat_lt 0 n) (nat_le n 65535) test in (n, (ltb-true 0 n parts.0, leb-true n 65535 parts.1), (number_takes digits n e).0)
    ] in with _ refl is

port_taken : (authority rest address : List ℕ) → with_port authority rest ≡ Some address → PortTaken authority rest address
port_taken authority [] address e = record {
  port = None;
  is_port = tt;
  rest_is = refl;
  address_is = λ host is. sym (same_Some _ _ e) ∙ ap (λ (xs : List ℕ). xs ++ codes ":80") (is ∙ append-nil host);
}
port_taken authority (b ∷ digits) address e =
    let found = cond_some _ _ _ e in
    let tests = and_parts (b == 58) (is_port digits) found.0 in
    let here : b ≡ 58 = (let test = tests.0 in grind (arith, nat_tests)) in
    let number = number_port digits tests.1 in
    let rest : b ∷ digits ≡ port_text (Some number.0) = ap (λ (n : ℕ). n ∷ digits) here ∙ ap (λ (xs : List ℕ). 58 ∷ xs) number.2 in
    record {
      port = Some number.0;
      is_port = number.1;
      rest_is = rest;
      address_is = λ host is. sym found.1 ∙ (is ∙ ap (λ (xs : List ℕ). host ++ xs) rest);
    }

plain_taken : (bytes rest : List ℕ) → after_plain bytes ≡ Some rest → (host : List ℕ) × IsHost host × (bytes ≡ host ++ rest)
plain_taken bytes rest e =
    let found = cond_some _ _ _ e in
    let n : ℕ = place_of 58 bytes in
    (take n bytes, inl found.0, sym (take-append-drop n bytes) ∙ ap (λ (xs : List ℕ). take n bytes ++ xs) found.1)

inner_taken : (bytes rest : List ℕ) → after_inner bytes ≡ Some rest → (inner : List ℕ) × IsTrue (is_made_of is_inner_byte inner) × (bytes ≡ inner ++ (93 ∷ rest))
inner_taken bytes rest e =
    let found = cond_some _ _ _ e in
    let n : ℕ = place_of 93 bytes in
    let tests = and_parts (nat_lt n (length bytes)) (is_made_of is_inner_byte (take n bytes)) found.0 in
    let within : n < length bytes = ltb-true n (length bytes) tests.0 in
    elim (at_place 93 bytes) [
      | inl none ↦ absurd (let left = ap length none in omega (arith, left, length-drop n bytes))
      | inr (tail, at) ↦
          let behind : tail ≡ rest = ap (drop 1) (sym at) ∙ (drop-drop 1 n bytes ∙ found.1) in
          (take n bytes, tests.1, sym (take-append-drop n bytes) ∙ (ap (λ (xs : List ℕ). take n bytes ++ xs) at ∙ ap (λ (xs : List ℕ). take n bytes ++ (93 ∷ xs)) behind))
    ]

host_taken : (bytes rest : List ℕ) → after_host bytes ≡ Some rest → (host : List ℕ) × IsHost host × (bytes ≡ host ++ rest)
host_taken [] rest e = absurd (cc e)
host_taken (b ∷ bytes) rest e =
    let with : (t : Bool) → (b == 91) ≡ t → (if t then after_inner bytes else after_plain (b ∷ bytes)) ≡ Some rest → (host : List ℕ) × IsHost host × (b ∷ bytes ≡ host ++ rest) =
    elim [
      | true ↦ λ bracket inside.
          let here : b ≡ 91 = grind (arith, nat_tests) in
          let found = inner_taken bytes rest inside in (
            codes "[" ++ (found.0 ++ codes "]"),
            inr (found.0, found.1, refl),
            ap (λ (n : ℕ). n ∷ bytes) here ∙ ap (λ (xs : List ℕ). 91 ∷ xs) (found.2 ∙ sym (append_assoc found.0 (93 ∷ []) rest)),
          )
      | false ↦ λ plain inside. plain_taken (b ∷ bytes) rest inside
    ] in with _ refl e

path_is : (path : List ℕ) → IsAt 47 path → list_all is_shown path ≡ true → IsPath path
path_is path (inl none) shown = rw none tt
path_is path (inr (tail, e)) shown = rw e (refl, (and_parts (is_shown 47) (list_all is_shown tail) (ap (list_all is_shown) (sym e) ∙ shown)).1)

located_taken : (https : Bool) (rest : List ℕ) (backend : Backend) → located https rest ≡ Some backend → IsUrl (scheme https ++ rest) backend × (backend.https ≡ https)
located_taken https rest backend e =
    let n : ℕ = place_of 47 rest in
    let authority : List ℕ = take n rest in
    let path : List ℕ = drop n rest in
    let shown = chosen_some (list_all is_shown path) (option_map (λ address. record { address = address; https = https }) (address_of authority)) backend e in
    let address = mapped_some (λ address. record { address = address; https = https }) (address_of authority) backend shown.1 in
    let behind = then_some (with_port authority) (after_host authority) address.0 address.1 in
    let host = host_taken authority behind.0 behind.1 in
    let port = port_taken authority behind.0 address.0 behind.2 in
    let whole : rest ≡ host.0 ++ (port_text port.port ++ path) =
    sym (take-append-drop n rest) ∙ (ap (λ (xs : List ℕ). xs ++ path) (host.2 ∙ ap (λ (xs : List ℕ). host.0 ++ xs) port.rest_is) ∙ append_assoc host.0 (port_text port.port) path) in
    let same : https ≡ backend.https = ap (λ (b : Backend). b.https) address.2 in (
      record {
        host = host.0;
        port = port.port;
        path = path;
        is_host = host.1;
        is_port = port.is_port;
        is_path = path_is path (at_place 47 rest) shown.0;
        url_is = ap (λ (xs : List ℕ). scheme https ++ xs) whole ∙ ap (λ (b : Bool). scheme b ++ (host.0 ++ (port_text port.port ++ path))) same;
        address_is = sym (ap (λ (b : Backend). b.address) address.2) ∙ port.address_is host.0 host.2;
      },
      sym same,
    )

prefix_is : (url prefix : List ℕ) → starts_with ◌==◌ url prefix ≡ true → url ≡ prefix ++ drop (length prefix) url
prefix_is url prefix e = sym (take-append-drop (length prefix) url) ∙ ap (λ (xs : List ℕ). xs ++ drop (length prefix) url) (sym (same_bytes prefix (take (length prefix) url) e))

pub backend_taken : (url : List ℕ) (backend : Backend) → backend_of url ≡ Some backend → IsUrl url backend
backend_taken url backend e =
    let plain : (t : Bool) → starts_with ◌==◌ url (codes "http://") ≡ t → (if t then located false (drop 7 url) else (if starts_with ◌==◌ url (codes "https://") then located true (drop 8 url) else None)) ≡ Some backend → IsUrl url backend =
    elim [
      | true ↦ λ test is. subst (λ (xs : List ℕ). IsUrl xs backend) (sym (prefix_is url (codes "http://") test)) (located_taken false (drop 7 url) backend is).0
      | false ↦ λ test is.
          let found = chosen_some (starts_with ◌==◌ url (codes "https://")) (located true (drop 8 url)) backend is in
          subst (λ (xs : List ℕ). IsUrl xs backend) (sym (prefix_is url (codes "https://") found.0)) (located_taken true (drop 8 url) backend found.1).0
    ] in plain _ refl e
