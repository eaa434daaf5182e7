use Rattle.std.proofs.Common.{◌≡◌, ◌∙◌, List, [], ◌∷◌, ◌++◌, set, get_or, ap, sym}
use Rattle.std.specs.Prelude.{Vec, ℕ}
use Rattle.std.specs.declared.alloc.Global.{Global}
use Rattle.std.proofs.lemmas.List.{map-set, get_or-map}
use Rattle.nt_merge.specs.Numbers.{contents}
use Rattle.nt_merge.proofs.drivers.add.Goals as goal

pub returns : goal.returns
returns c =
    let lists = c.args.lists.now in
    let net = c.args.net in
    let list = c.index-lists-net.result in
    let items = λ (l : Vec ℕ Global). l.items in
    let read : get_or (contents lists) net [] ≡ (get_or lists net list).items = get_or-map items lists net list [] c.requires in
    record {
      ok = map-set items lists net c.push.new.self ∙ ap (λ (l : List ℕ). set (contents lists) net l) (c.in_ok-push.ensures.items ∙ ap (λ (l : List ℕ). l ++ c.args.at ∷ []) (sym read));
    }
