use Rattle.std.proofs.Common.{inl, inr, ◌∙◌, Some, ap, refl}
use Rattle.pipe_source.proofs.QuotedFacts.{line-no_bom}
use Rattle.pipe_source.proofs.quoted_rows.reader_of.Goals as goal

pub returns : goal.returns
returns c =
    let made = c.from_reader.ensures in
    let e1 = c.has_headers.ensures in
    let e2 = c.flexible.ensures in record {
      plain = rw (e2, e1) at made.trim ∙ c.new.ensures.trim;
      ready = inr (inr (rw (e2, e1) at made.has_headers, made.headers));
      config = rw (e2, e1) at made.config ∙ c.new.ensures.config;
      between = inl made.state;
      bytes = c.args.bytes.items;
      source = made.source ∙ rw (c.new-2.ensures.inner, c.new-2.ensures.position) (ap Some (line-no_bom c.args.bytes.items c.requires.0 c.requires.1));
      records = refl;
    }
