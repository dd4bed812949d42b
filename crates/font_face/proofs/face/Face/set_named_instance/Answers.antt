use Rattle.font_face.proofs.face.Face.set_named_instance.Goals as goal

pub returns-in-Ok-clause-kept : goal.returns-in-Ok-clause-kept
returns-in-Ok-clause-kept c = λ k.
    c.set_variations.ensures.kept
    (record {
      units = k.units;
      glyphs = k.glyphs;
      characters = k.characters;
      encoding = k.encoding;
      variations = k.variations;
      horizontal = k.horizontal;
      vertical = k.vertical;
      vorg = k.vorg;
      extents = k.extents;
      layout = k.layout;
      color = k.color;
      gdef = k.gdef;
      outlines = k.outlines;
      locations = k.locations;
      long_offsets = k.long_offsets;
      outlined = k.outlined;
      positioned = k.positioned;
      scaled = k.scaled;
      varied = record {
        axes = k.varied.axes;
        maps = k.varied.maps;
        horizontal = k.varied.horizontal;
        vertical = k.varied.vertical;
        values = k.varied.values;
        deltas = k.varied.deltas;
      };
    })
