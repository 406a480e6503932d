use Rattle.std.proofs.Common.{◌≡◌, ◌-◌, ◌<◌, take, drop, length, Ok, Err, refl, sym, ◌∙◌}
use Rattle.std.specs.String.{string_bytes}
use Rattle.std.proofs.lemmas.Result.{err_from_is_err_and}
use Rattle.option_words.specs.Items.{texts_of}
use Rattle.quota_client.specs.Words.{client_of}
use Rattle.quota_client.proofs.WordLemmas.{all_paths, asked_of-words, asked_with-fault, asked_with-other}
use Rattle.quota_client.proofs.WordLemmas.{asked_with-paths, other_place, some_paths}
use Rattle.quota_client.proofs.words.read_words.Goals as goal

pub returns-in_err-client-clause-asked : goal.returns-in_err-client-clause-asked
returns-in_err-client-clause-asked c =
    let words = c.args.words.now in
    let paths = take (length words - 4) (drop 4 words) in
    let some : 0 < length paths = some_paths (length paths) c.is_empty.result c.is_empty.ensures c.if-is_empty.false in
    let p = err_from_is_err_and c.from_residual.result c.from_residual.ensures.1 in
    let met : client_of c.as_str.result.now c.as_str-2.result.now c.as_str-3.result.now c.as_str-4.result.now
    ≡ Err c.in_err-client.field-0.0 = sym c.in_err-client.ensures in
    rw (p.1, p.2)
    (asked_of-words words c.mode-item.result c.port-item.result c.uid-item.result c.gid-item.result
    c.in-len4-up.len_at_least c.mode-item.is c.port-item.is c.uid-item.is c.gid-item.is some
    c.if-paths-gt-MOST_PATHS.false
    ∙ asked_with-fault (string_bytes c.mode-item.result) (string_bytes c.port-item.result)
    (string_bytes c.uid-item.result) (string_bytes c.gid-item.result) (texts_of paths) c.in_err-client.field-0.0
    (rw (c.as_str.ensures.value, c.as_str-2.ensures.value, c.as_str-3.ensures.value, c.as_str-4.ensures.value) at met))

pub returns-in-None-clause-asked : goal.returns-in-None-clause-asked
returns-in-None-clause-asked c =
    let words = c.args.words.now in
    let paths = take (length words - 4) (drop 4 words) in
    let some : 0 < length paths = some_paths (length paths) c.is_empty.result c.is_empty.ensures c.if-is_empty.false in
    let read : client_of c.as_str.result.now c.as_str-2.result.now c.as_str-3.result.now c.as_str-4.result.now
    ≡ Ok c.in_ok-client.client = sym c.in_ok-client.ensures in
    asked_of-words words c.mode-item.result c.port-item.result c.uid-item.result c.gid-item.result
    c.in-len4-up.len_at_least c.mode-item.is c.port-item.is c.uid-item.is c.gid-item.is some
    c.if-paths-gt-MOST_PATHS.false
    ∙ asked_with-paths (string_bytes c.mode-item.result) (string_bytes c.port-item.result)
    (string_bytes c.uid-item.result) (string_bytes c.gid-item.result) (texts_of paths) c.in_ok-client.client
    (rw (c.as_str.ensures.value, c.as_str-2.ensures.value, c.as_str-3.ensures.value, c.as_str-4.ensures.value) at read)
    (c.in-None.ensures ∙ other_place paths)

pub returns-in-Some-clause-asked : goal.returns-in-Some-clause-asked
returns-in-Some-clause-asked c =
    let words = c.args.words.now in
    let paths = take (length words - 4) (drop 4 words) in
    let some : 0 < length paths = some_paths (length paths) c.is_empty.result c.is_empty.ensures c.if-is_empty.false in
    let read : client_of c.as_str.result.now c.as_str-2.result.now c.as_str-3.result.now c.as_str-4.result.now
    ≡ Ok c.in_ok-client.client = sym c.in_ok-client.ensures in
    asked_of-words words c.mode-item.result c.port-item.result c.uid-item.result c.gid-item.result
    c.in-len4-up.len_at_least c.mode-item.is c.port-item.is c.uid-item.is c.gid-item.is some
    c.if-paths-gt-MOST_PATHS.false
    ∙ asked_with-other (string_bytes c.mode-item.result) (string_bytes c.port-item.result)
    (string_bytes c.uid-item.result) (string_bytes c.gid-item.result) (texts_of paths) c.in_ok-client.client
    c.in-Some.place (rw
    (c.as_str.ensures.value, c.as_str-2.ensures.value, c.as_str-3.ensures.value, c.as_str-4.ensures.value) at read)
    (c.in-Some.ensures ∙ other_place paths)
    ∙ rw c.at.ensures refl

pub returns-in-None-clause-paths : goal.returns-in-None-clause-paths
returns-in-None-clause-paths c =
    let words = c.args.words.now in
    let paths = take (length words - 4) (drop 4 words) in
    all_paths (texts_of paths) (c.in-None.ensures ∙ other_place paths)
