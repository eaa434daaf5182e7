-- What the parts of a parsed text say.
use Rattle.nt_small.specs.Grammar.{Item, Declare, Drive}
use Rattle.nt_small.specs.declared.items.ParsedItem.{ParsedItem}
use Rattle.nt_small.specs.declared.items.ParsedItem.TheVariants as parsed

abbrev pub item_of : ParsedItem → Item
item_of (parsed.Declare net) = Declare net.now
item_of (parsed.Drive net digits) = Drive net.now digits.now
