mod May
