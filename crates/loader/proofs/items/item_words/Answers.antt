-- `loader::items::item_words` meets its contract. Assumes nothing.
use mathlib.Core.Path.{◌≡◌, sym, ap, subst, ◌∙◌}
use Rattle.std.specs.Prelude.{Some}
use lib.ListN.{drop}
use Rattle.format.specs.Fields.{slot}
use Rattle.format.specs.Tails.{first_kind, second_kind}
use Rattle.loader.specs.Items.{item_words_is}
use Rattle.loader.specs.Values.{parts, slot_words_is}
use Rattle.loader.proofs.Holding.{words_found, words_lost}
use Rattle.loader.proofs.Listing.{no_first, no_second, item_with_name, item_plain}
use Rattle.loader.proofs.items.item_words.Goals as goal

pub returns-in_err-a : goal.returns-in_err-a
returns-in_err-a c =
    ap (item_words_is c.args.listed c.args.file.now) c.from_residual.ensures ∙ sym (no_first c.args.listed c.args.file.now _ (words_lost c.args.file.now (drop c.args.at c.args.file.now) (first_kind c.args.listed) c.slot_words.result (subst (λ k. slot_words_is k c.args.file.now c.slot_words.result ≡ slot k (drop c.args.at c.args.file.now)) c.first_kind.ensures c.slot_words.ensures) c.in_err-a.was))

pub returns-in_err-b : goal.returns-in_err-b
returns-in_err-b c =
    ap (item_words_is c.args.listed c.args.file.now) c.from_residual-in_err-b.ensures ∙ sym (no_second c.args.listed c.args.file.now _ _ (words_found c.args.file.now (drop c.args.at c.args.file.now) (first_kind c.args.listed) c.slot_words.result (subst (λ k. slot_words_is k c.args.file.now c.slot_words.result ≡ slot k (drop c.args.at c.args.file.now)) c.first_kind.ensures c.slot_words.ensures) c.in_ok-a.a c.in_ok-a.was) (words_lost c.args.file.now (drop c.in_ok-a.a.end c.args.file.now) (second_kind c.args.listed) c.slot_words-2.result (subst (λ k. slot_words_is k c.args.file.now c.slot_words-2.result ≡ slot k (drop c.in_ok-a.a.end c.args.file.now)) c.second_kind.ensures c.slot_words-2.ensures) c.in_err-b.was))

pub returns-then-is_named : goal.returns-then-is_named
returns-then-is_named c =
    (λ i. item_words_is c.args.listed c.args.file.now (Some (record { value = c.low.ensures i; name = c.low-then-is_named.ensures i; end = c.in_ok-b.b.end }))) ∙ item_with_name c.args.listed c.args.file.now _ (parts c.in_ok-a.a.words) (parts c.in_ok-b.b.words) c.in_ok-a.a.end c.in_ok-b.b.end (words_found c.args.file.now (drop c.args.at c.args.file.now) (first_kind c.args.listed) c.slot_words.result (subst (λ k. slot_words_is k c.args.file.now c.slot_words.result ≡ slot k (drop c.args.at c.args.file.now)) c.first_kind.ensures c.slot_words.ensures) c.in_ok-a.a c.in_ok-a.was) (words_found c.args.file.now (drop c.in_ok-a.a.end c.args.file.now) (second_kind c.args.listed) c.slot_words-2.result (subst (λ k. slot_words_is k c.args.file.now c.slot_words-2.result ≡ slot k (drop c.in_ok-a.a.end c.args.file.now)) c.second_kind.ensures c.slot_words-2.ensures) c.in_ok-b.b c.in_ok-b.was) (sym c.is_named.ensures ∙ c.if-is_named.true)

pub returns : goal.returns
returns c =
    (λ i. item_words_is c.args.listed c.args.file.now (Some (record { value = c.low-2.ensures i; name = 0; end = c.in_ok-b.b.end }))) ∙ item_plain c.args.listed c.args.file.now _ (parts c.in_ok-a.a.words) (parts c.in_ok-b.b.words) c.in_ok-a.a.end c.in_ok-b.b.end (words_found c.args.file.now (drop c.args.at c.args.file.now) (first_kind c.args.listed) c.slot_words.result (subst (λ k. slot_words_is k c.args.file.now c.slot_words.result ≡ slot k (drop c.args.at c.args.file.now)) c.first_kind.ensures c.slot_words.ensures) c.in_ok-a.a c.in_ok-a.was) (words_found c.args.file.now (drop c.in_ok-a.a.end c.args.file.now) (second_kind c.args.listed) c.slot_words-2.result (subst (λ k. slot_words_is k c.args.file.now c.slot_words-2.result ≡ slot k (drop c.in_ok-a.a.end c.args.file.now)) c.second_kind.ensures c.slot_words-2.ensures) c.in_ok-b.b c.in_ok-b.was) (sym c.is_named.ensures ∙ c.if-is_named.false)
