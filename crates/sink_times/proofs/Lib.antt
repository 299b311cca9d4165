mod SenderFacts
