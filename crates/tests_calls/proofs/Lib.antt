mod TwoDomains
